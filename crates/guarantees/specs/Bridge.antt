-- The bridge from the code's definitions over arrays to the automaton: what is claimed of a network that 17 lets pass. `proofs/Bridge.antt` proves it of
-- every such network.
-- Assumes nothing.
use Rattle.std.specs.Prelude.{ℕ, ◌<◌, ◌≡◌, true, length, get_or}
use Rattle.network.specs.declared.Network.{Network}
use Rattle.lockstep.specs.Rounds.{lockstep_of}
use Rattle.synchronizer.specs.declared.State.{State}
use Rattle.synchronizer.specs.Start.{start_of}
use Rattle.synchronizer.specs.Answer.{answer_of}
use Rattle.synchronizer.specs.After.{after_of}
use Rattle.synchronizer.specs.Valid.{valid_state, Sized}
use Rattle.automaton.specs.Actions.{Act, body_of}
use Rattle.automaton.specs.Global.{begin}
use Rattle.automaton.specs.Answer.{answer}
use Rattle.automaton.specs.Run.{after}
use Rattle.automaton.specs.Lockstep.{lockstep}
use Rattle.guarantees.specs.Kinds.{kind_of}
use Rattle.guarantees.specs.Reading.{net_of, read}

-- a state within the ranges of 17, whose arrays are as long as the struct says
abbrev pub InRange : Network → State → Type 0
InRange net s = (valid_state net s ≡ true) × Sized s

pub record Bridge (net : Network) : Type 0 where
  -- the answer to every action is the automaton's
  pub answered : (s : State) → InRange net s → (a : Act) → answer_of net s (kind_of a) (body_of a).p (body_of a).q ≡ answer (net_of net) (read net s) a
  -- where the action is taken, the state that follows is the automaton's
  pub follows : (s : State) → InRange net s → (a : Act) → answer (net_of net) (read net s) a ≡ 0 → read net (after_of net s (kind_of a) (body_of a).p (body_of a).q) ≡ after (net_of net) (read net s) a
  -- and is in range again
  pub kept : (s : State) → InRange net s → (a : Act) → answer (net_of net) (read net s) a ≡ 0 → InRange net (after_of net s (kind_of a) (body_of a).p (body_of a).q)
  -- the reading leaves nothing out: two states in range with one reading are one state
  pub whole : (s t : State) → InRange net s → InRange net t → read net s ≡ read net t → s ≡ t
  -- the start state is the automaton's
  pub begins : read net (start_of net).state ≡ begin (net_of net)
  -- the lockstep table is the automaton's lockstep run, where the array of start values is as long as the struct says
  pub tabled : length net.starts ≡ 64 → (k p : ℕ) → p < net.nodes → get_or (lockstep_of net k) p 0 ≡ lockstep (net_of net) k p

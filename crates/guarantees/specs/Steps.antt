-- What is handed to the bench one after another: single actions, lists, and calls of the twenty methods, in any order, each taken or refused. By the
-- definitions that the contracts cite, and nothing else.
-- Assumes nothing.
use Rattle.std.specs.Prelude.{ℕ, List, [], ◌∷◌}
use Rattle.laws.specs.Choice.{if_eq}
use Rattle.network.specs.declared.Network.{Network}
use Rattle.actions.specs.declared.Kind.{Kind}
use Rattle.actions.specs.declared.Kind.TheVariants.{Output, Input}
use Rattle.actions.specs.Kinds.{count, count_in}
use Rattle.actions.specs.Records.{body_of}
use Rattle.synchronizer.specs.declared.State.{State}
use Rattle.synchronizer.specs.Entry.{done_of, act_of, list_of}

pub data Step : Type 0 where
  -- a call of the method of a kind; where it takes one node, the second number is not looked at
  method : Kind → ℕ → ℕ → Step
  -- the bytes of a single action
  action : List ℕ → Step
  -- the bytes of a list of actions
  list : List ℕ → Step

-- "where an action has one node, q is p"
abbrev pub second_of : Kind → ℕ → ℕ → ℕ
second_of k p q = if_eq (body_of k) 1 p q

module _ (net : Network) where
  -- the state that follows a step
  unfoldable pub state_after : State → Step → State
  state_after s (method k p q) = (done_of net s k p (second_of k p q)).state
  state_after s (action bytes) = (act_of net s bytes).state
  state_after s (list bytes) = (list_of net s bytes).state

  -- its answer
  unfoldable pub answer_to : State → Step → ℕ
  answer_to s (method k p q) = (done_of net s k p (second_of k p q)).answer
  answer_to s (action bytes) = (act_of net s bytes).answer
  answer_to s (list bytes) = (list_of net s bytes).answer

  -- the state after all: "the one after a refusal goes on from the unchanged state"
  unfoldable pub state_after_all : State → List Step → State
  state_after_all s [] = s
  state_after_all s (x ∷ l) = state_after_all (state_after s x) l

-- "Rounds started are outputs, rounds finished are inputs."
unfoldable pub started : State → ℕ → ℕ
started s p = count_in s.counts (count Output p)

unfoldable pub finished : State → ℕ → ℕ
finished s p = count_in s.counts (count Input p)

-- The bridge, proved of every network that 17 lets pass. Each part stands on a floor of its own: `Answers`; `Counting`, `Messages`, `Slots` and `Means`,
-- put together in `Effects` and `After`; `Whole`; `Start`.
-- Assumes nothing.
use mathlib.Core.Path.{◌≡◌, ◌∙◌}
use mathlib.Core.Bool.{true}
use Rattle.network.specs.declared.Network.{Network}
use Rattle.network.specs.Valid.{valid_network}
use Rattle.synchronizer.proofs.Keeps.{taken_keeps}
use Rattle.automaton.specs.Actions.{body_of}
use Rattle.guarantees.specs.Kinds.{kind_of}
use Rattle.guarantees.specs.Bridge.{Bridge}
pub use Rattle.guarantees.proofs.After.{answer_is, after_is}
use Rattle.guarantees.proofs.Whole.{one_reading}
use Rattle.guarantees.proofs.Start.{start_is, lockstep_is}

pub bridge : (net : Network) → valid_network net ≡ true → Bridge net
bridge net v =
    record {
      answered = λ s h a. answer_is net v s h.0 a;
      follows = λ s h a e. after_is net v s h.0 h.1 a e;
      kept = λ s h a e. taken_keeps net v s (kind_of a) (body_of a).p (body_of a).q h.0 h.1 (answer_is net v s h.0 a ∙ e);
      whole = one_reading net v;
      begins = start_is net v;
      tabled = lockstep_is net v;
    }

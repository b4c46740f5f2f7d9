-- What comes back of a plan names one result of the code alone, and one network where it was lent.
-- Assumes nothing.
use Prim.Native.Nat.{ℕ}
use mathlib.Core.Path.{◌≡◌, sym, ◌∙◌, ap}
use Rattle.std.specs.Prelude.{Result, Ok, Err}
use Rattle.answers.specs.declared.Refused.{Refused}
use Rattle.answers.proofs.Named.{number_of-injective}
use Rattle.network.specs.declared.Network.{Network}
use Rattle.network.specs.Zeros.{zero_network}
use Rattle.records.specs.declared.Plan.{Plan}
use Rattle.records.specs.Numbers.{accepted}
use Rattle.records.specs.Planned.{Planned, planned_of, handed_of}
use Rattle.records.specs.Reader.{answered}
use Rattle.records.proofs.Turns.{refusal_is_no_0}

pub handed_of-injective : (a b : Result ℕ Refused) (m n : Network) → handed_of a m ≡ handed_of b n → (a ≡ b) × (m ≡ n)
handed_of-injective (Ok p) (Ok q) m n e = (ap Ok (ap (λ x. x.place) e), ap (λ x. x.network) e)
handed_of-injective (Ok p) (Err f) m n e = absurd (refusal_is_no_0 f.refusal (sym (ap (λ x. x.number) e)))
handed_of-injective (Err d) (Ok q) m n e = absurd (refusal_is_no_0 d.refusal (ap (λ x. x.number) e))
handed_of-injective (Err d) (Err f) m n e =
    let refusal = number_of-injective d.refusal f.refusal (ap (λ x. x.number) e) in
    let place = ap (λ x. x.place) e in
    (ap Err (λ i. record { refusal = refusal i; place = place i }), ap (λ x. x.network) e)

-- what is read of a result is what is read of the lent form, with the plan's network or with zeros
pub planned_of-injective : (a b : Result Plan Refused) → planned_of a ≡ planned_of b → a ≡ b
planned_of-injective (Ok p) (Ok q) e =
    let taken = ap (λ x. x.place) e in
    let network = ap (λ x. x.network) e in
    ap Ok (λ i. record { taken = taken i; network = network i })
planned_of-injective (Ok p) (Err f) e =
    let q = handed_of-injective (Ok p.taken) (Err f) p.network zero_network e in
    cc q.0
planned_of-injective (Err d) (Ok q) e =
    let p = handed_of-injective (Err d) (Ok q.taken) zero_network q.network e in
    cc p.0
planned_of-injective (Err d) (Err f) e =
    let q = handed_of-injective (Err d) (Err f) zero_network zero_network e in
    cc q.0

-- "A refused plan hands back a network of zeros"
abbrev pub ZerosIfRefused : Planned → Type 0
ZerosIfRefused x = (x.number ≡ accepted → ⊥) → x.network ≡ zero_network

-- then a refusal reads the same with a network lent and without one
pub refused_in_both : (e : Refused) (net : Network) (x : Planned) → ZerosIfRefused x → handed_of (Err e) net ≡ x → planned_of (Err e) ≡ x
refused_in_both e net x zeros q =
    let none : net ≡ zero_network = ap (λ y. y.network) q ∙ zeros (λ z. refusal_is_no_0 e.refusal (ap (λ y. y.number) q ∙ z)) in
    ap (answered _ e.place) (sym none) ∙ q

-- The two statements of what the records of a plan come to are one: the answer that `lists_of` computes is acceptance exactly if the bytes hold a
-- plan that keeps rules 1 to 5, and a refusal exactly if the records before its place keep the rules and there its rule is broken first.
-- Assumes nothing.
use Prim.Native.Nat.{ℕ, ◌≤◌}
use native.Mathlib.Omega.{arith}
use mathlib.Core.Path.{◌≡◌, refl, sym, ◌∙◌, ap, subst₂}
use mathlib.Core.Logic.{◌⊎◌, inl, inr, ◌↔◌}
use mathlib.Core.List.{List, ◌++◌}
use lib.ListN.{length, take, length-append}
use lib.Seq.{take-append_seam}
use Rattle.laws.specs.Lists.{Bytes}
use Rattle.network.specs.declared.Network.{Network}
use Rattle.records.specs.Numbers.{accepted}
use Rattle.network.specs.Zeros.{zero_network}
use Rattle.records.specs.Reader.{refused_with, accepted_with, lists_of}
use Rattle.records.specs.Plan.{Plan, bytes_of, network_of, Keeps1to5}
use Rattle.records.specs.Keeps.{Accepted1to5, Refused1to5}
use Rattle.records.proofs.Networks.{one_plan}
use Rattle.records.proofs.Outcome.{Outcome, taken, stopped, outcome}
use Rattle.records.proofs.Planned.{ZerosIfRefused}
use Rattle.records.proofs.Through.{accepted_answer, refused_answer}

-- an accepted plan has a node, so its network is not that of zeros
not_of_zeros : (s : List ℕ) (n : ℕ) (net : Network) → Accepted1to5 s n net → net ≡ zero_network → ⊥
unfolding network_of zero_network
not_of_zeros s n net A e = omega (arith, A.keeps.some_node, ap (λ x. x.nodes) (sym A.network ∙ e))

module _ (s : List ℕ) (small : Bytes s) where
  pub answer_accepted : (n : ℕ) (net : Network) → lists_of s ≡ accepted_with n net → Accepted1to5 s n net
  answer_accepted n net e = by (outcome s small)
    where
      by : Outcome s → Accepted1to5 s n net
      by (taken m other q A) =
          subst₂ (Accepted1to5 s) (ap (λ x. x.place) (sym q ∙ e)) (ap (λ x. x.network) (sym q ∙ e)) A
      by (stopped k w d q F) = absurd (d (ap (λ x. x.number) (sym q ∙ e)))

  pub answer_refused : (k w : ℕ) → lists_of s ≡ refused_with k w → Refused1to5 s k w
  answer_refused k w e = by (outcome s small)
    where
      by : Outcome s → Refused1to5 s k w
      by (taken n net q A) = absurd (not_of_zeros s n net A (ap (λ x. x.network) (sym q ∙ e)))
      by (stopped j v d q F) =
          subst₂ (Refused1to5 s) (ap (λ x. x.number) (sym q ∙ e)) (ap (λ x. x.place) (sym q ∙ e)) F

  -- accepted with n bytes and a network, exactly if these bytes hold a plan that keeps rules 1 to 5, and the network is that plan's
  pub accepted_exactly : (n : ℕ) (net : Network) → (lists_of s ≡ accepted_with n net) ↔ Accepted1to5 s n net
  accepted_exactly n net = (answer_accepted n net, accepted_answer s n net)

  -- refused by k at place w, exactly if the records before w keep the rules and there rule k is the first that is broken
  pub refused_exactly : (k w : ℕ) → (lists_of s ≡ refused_with k w) ↔ Refused1to5 s k w
  refused_exactly k w = (answer_refused k w, refused_answer s k w)

  -- there is no third answer
  pub every_answer : ((n : ℕ) × (net : Network) × (lists_of s ≡ accepted_with n net)) ⊎ ((k : ℕ) × (w : ℕ) × (lists_of s ≡ refused_with k w) × (k ≡ accepted → ⊥))
  every_answer = by (outcome s small)
    where
      by : Outcome s → ((n : ℕ) × (net : Network) × (lists_of s ≡ accepted_with n net)) ⊎ ((k : ℕ) × (w : ℕ) × (lists_of s ≡ refused_with k w) × (k ≡ accepted → ⊥))
      by (taken n net q A) = inl (n, net, q)
      by (stopped k w d q F) = inr (k, w, q, d)

-- ---- what follows

pub refused_has_zeros : (s : List ℕ) → Bytes s → ZerosIfRefused (lists_of s)
refused_has_zeros s small = by (outcome s small)
  where
    by : Outcome s → ZerosIfRefused (lists_of s)
    by (taken n net q A) d = absurd (d (ap (λ x. x.number) q))
    by (stopped k w c q F) d = ap (λ x. x.network) q

-- bytes past kind 0 are never looked at
pub rest_is_not_read : (s t : List ℕ) → Bytes s → (n : ℕ) (net : Network) → lists_of s ≡ accepted_with n net → n ≤ length t → take n t ≡ take n s → lists_of t ≡ accepted_with n net
rest_is_not_read s t small n net e l q =
    let A = answer_accepted s small n net e in
    accepted_answer t n net (record { plan = A.plan; keeps = A.keeps; within = l; bytes = q ∙ A.bytes; network = A.network })

-- a plan that keeps rules 1 to 5 is read back from its own bytes, whatever follows them
pub written_plan_is_read : (p : Plan) → Keeps1to5 p → (rest : List ℕ) → lists_of (bytes_of p ++ rest) ≡ accepted_with (length (bytes_of p)) (network_of p)
written_plan_is_read p K rest =
    accepted_answer (bytes_of p ++ rest) (length (bytes_of p)) (network_of p)
    (record { plan = p; keeps = K; within = omega (arith, length-append (bytes_of p) rest); bytes = take-append_seam (bytes_of p) rest; network = refl })

-- bytes hold one plan at the most
pub only_plan : (s : List ℕ) {n m : ℕ} {net other : Network} (A : Accepted1to5 s n net) (B : Accepted1to5 s m other) → A.plan ≡ B.plan
only_plan s {n} {m} {net} {other} A B =
    let same : net ≡ other = ap (λ x. x.network) (sym (accepted_answer s n net A) ∙ accepted_answer s m other B) in
    one_plan A.plan B.plan (sym A.network ∙ same ∙ B.network)

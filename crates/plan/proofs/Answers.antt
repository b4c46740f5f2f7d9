-- The two statements of what a plan's bytes come to are one: the answer that `plan_of` computes is acceptance exactly if the bytes hold a plan that
-- keeps every rule, with that plan's network; and it is number k at place w exactly if rule k is broken there and nothing earlier in
-- document 01's order is.
-- Assumes nothing.
use Prim.Native.Nat.{ℕ}
use native.Mathlib.Omega.{arith}
use mathlib.Core.Path.{◌≡◌, refl, sym, ◌∙◌, ap, subst₂}
use mathlib.Core.Logic.{◌↔◌, ⊎_elim}
use mathlib.Core.List.{List}
use Rattle.laws.specs.Lists.{Bytes}
use Rattle.laws.proofs.Choice.{if_eq_yes, if_eq_no, eq_elim}
use Rattle.network.specs.declared.Network.{Network}
use Rattle.network.specs.Sets.{with_sets}
use Rattle.records.specs.Numbers.{accepted}
use Rattle.network.specs.Zeros.{zero_network}
use Rattle.records.specs.Reader.{refused_with, accepted_with, lists_of}
use Rattle.records.specs.Plan.{network_of}
use Rattle.records.specs.Keeps.{Accepted1to5}
use Rattle.records.proofs.Answers.{answer_accepted, answer_refused, every_answer, refused_has_zeros}
use Rattle.records.proofs.Planned.{ZerosIfRefused}
use Rattle.records.proofs.Through.{accepted_answer, refused_answer, refused_is_no_0}
use Rattle.plan.specs.Checks.{checks_of, plan_of}
use Rattle.plan.specs.Accepted.{plan_network, Accepted, Refused, by_record, by_whole}
use Rattle.plan.proofs.Walks.{checks_cases, kept_is_accepted, broken_is_refused, broken_is_no_0}

-- ---- the records' answer decides what is looked at

pub listed_is_checked : (s : List ℕ) (n : ℕ) (net : Network) → lists_of s ≡ accepted_with n net → plan_of s ≡ checks_of (with_sets net) n
unfolding plan_of
listed_is_checked s n net e = rw e (if_eq_yes accepted accepted _ _ refl)

pub refused_stays : (s : List ℕ) (k w : ℕ) → lists_of s ≡ refused_with k w → (k ≡ accepted → ⊥) → plan_of s ≡ refused_with k w
unfolding plan_of
refused_stays s k w e d = rw e (if_eq_no k accepted _ _ d)

-- refused by a walk or by a record, it has zeros
pub refused_plan_has_zeros : (s : List ℕ) → Bytes s → ZerosIfRefused (plan_of s)
unfolding plan_of
refused_plan_has_zeros s small =
    eq_elim ZerosIfRefused (lists_of s).number accepted _ _
    (λ _. checks_cases _ _ ZerosIfRefused (λ k w b d. refl) (λ K d. absurd (d refl)))
    (λ _. refused_has_zeros s small)

-- ---- from what the bytes hold to the answer

pub accepted_plan : (s : List ℕ) (n : ℕ) (net : Network) → Accepted s n net → plan_of s ≡ accepted_with n net
accepted_plan s n net A =
    listed_is_checked s n (network_of A.plan) (accepted_answer s n (network_of A.plan) lists)
    ∙ kept_is_accepted (plan_network A.plan) n A.keeps_whole
    ∙ ap (accepted_with n) (sym A.network)
  where
    lists : Accepted1to5 s n (network_of A.plan)
    lists =
        record { plan = A.plan; keeps = A.keeps_records; within = A.within; bytes = A.bytes; network = refl }

pub refused_plan : (s : List ℕ) (k w : ℕ) → Refused s k w → plan_of s ≡ refused_with k w
refused_plan s k w (by_record F) = refused_stays s k w (refused_answer s k w F) (refused_is_no_0 F)
refused_plan s k w (by_whole n net A b) =
    listed_is_checked s n net (accepted_answer s n net A) ∙ broken_is_refused (with_sets net) n k w b

-- ---- from the answer to what the bytes hold

-- what a plan's bytes come to: accepted or refused, and there is no third
pub data Outcome (s : List ℕ) : Type 0 where
  taken : (n : ℕ) (net : Network) → plan_of s ≡ accepted_with n net → Accepted s n net → Outcome s
  stopped : (k w : ℕ) → (k ≡ accepted → ⊥) → plan_of s ≡ refused_with k w → Refused s k w → Outcome s

pub outcome : (s : List ℕ) → Bytes s → Outcome s
outcome s small = ⊎_elim listed refused (every_answer s small)
  where
    listed : (n : ℕ) × (net : Network) × (lists_of s ≡ accepted_with n net) → Outcome s
    listed (n, net, e) =
        let A = answer_accepted s small n net e in
        let q = listed_is_checked s n net e in
        checks_cases (with_sets net) n (λ x. plan_of s ≡ x → Outcome s) (λ k w b p. stopped k w (broken_is_no_0 b) p (by_whole n net A b))
        (λ K p. taken n (with_sets net) p (record { plan = A.plan; keeps_records = A.keeps; keeps_whole = rw (← A.network) K; within = A.within; bytes = A.bytes; network = ap with_sets A.network }))
        q

    refused : (k : ℕ) × (w : ℕ) × (lists_of s ≡ refused_with k w) × (k ≡ accepted → ⊥) → Outcome s
    refused (k, w, e, d) = stopped k w d (refused_stays s k w e d) (by_record (answer_refused s small k w e))

-- an accepted plan has a node, so its network is not that of zeros
not_of_zeros : (s : List ℕ) (n : ℕ) (net : Network) → Accepted s n net → net ≡ zero_network → ⊥
unfolding with_sets network_of zero_network
not_of_zeros s n net A e = omega (arith, A.keeps_records.some_node, ap (λ x. x.nodes) (sym A.network ∙ e))

module _ (s : List ℕ) (small : Bytes s) where
  pub answer_accepted_plan : (n : ℕ) (net : Network) → plan_of s ≡ accepted_with n net → Accepted s n net
  answer_accepted_plan n net e = by (outcome s small)
    where
      by : Outcome s → Accepted s n net
      by (taken m other q A) = subst₂ (Accepted s) (ap (λ x. x.place) (sym q ∙ e)) (ap (λ x. x.network) (sym q ∙ e)) A
      by (stopped k w d q F) = absurd (d (ap (λ x. x.number) (sym q ∙ e)))

  pub answer_refused_plan : (k w : ℕ) → plan_of s ≡ refused_with k w → Refused s k w
  answer_refused_plan k w e = by (outcome s small)
    where
      by : Outcome s → Refused s k w
      by (taken n net q A) = absurd (not_of_zeros s n net A (ap (λ x. x.network) (sym q ∙ e)))
      by (stopped j v d q F) =
          subst₂ (Refused s) (ap (λ x. x.number) (sym q ∙ e)) (ap (λ x. x.place) (sym q ∙ e)) F

  -- accepted with n bytes and a network, exactly if these bytes hold a plan that keeps every rule, and the network is that plan's
  pub accepted_exactly : (n : ℕ) (net : Network) → (plan_of s ≡ accepted_with n net) ↔ Accepted s n net
  accepted_exactly n net = (answer_accepted_plan n net, accepted_plan s n net)

  -- number k at place w, exactly if rule k is broken there and nothing earlier in document 01's order is
  pub refused_exactly : (k w : ℕ) → (plan_of s ≡ refused_with k w) ↔ Refused s k w
  refused_exactly k w = (answer_refused_plan k w, refused_plan s k w)

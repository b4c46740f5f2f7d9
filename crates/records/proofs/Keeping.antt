-- The number that the rules give for a record, over what has been read before it: 0 exactly if the record keeps the rules, and k exactly if
-- rule k is the first that it breaks.
-- Assumes nothing.
use Prim.Native.Nat.{ℕ}
use native.Mathlib.Omega.{arith}
use mathlib.Core.Path.{◌≡◌, refl, sym, ◌∙◌, ap}
use lib.ListN.{length}
use Rattle.records.specs.declared.Record.{Record}
use Rattle.records.specs.declared.Record.TheVariants.{End, Rounds, Node, Link}
use Rattle.records.specs.Numbers.{accepted, out_of_order, too_many, out_of_range}
use Rattle.records.specs.Rules.{follows_of, rule_of}
use Rattle.records.specs.Plan.{Plan, PlanLink, network_of, Rising}
use Rattle.records.specs.Keeps.{Keeps, BreaksFirst, order, number, range}
use Rattle.records.proofs.Lists.{none_is_empty}
use Rattle.records.proofs.Rising.{follows_rising, rising_follows}
use Rattle.records.proofs.Rules.{rounds_cases, node_cases, link_cases, end_cases}

-- ---- one rule is broken first, or none is

pub kept_none_broken : (p : Plan) (r : Record) {k : ℕ} → Keeps p r → BreaksFirst p r k → ⊥
kept_none_broken p r w (order e o) = o w.0
kept_none_broken p r w (number e o n) = n w.1
kept_none_broken p r w (range e o n g) = g w.2

pub one_broken_first : {p : Plan} {r : Record} {j k : ℕ} → BreaksFirst p r j → BreaksFirst p r k → j ≡ k
one_broken_first (order d o) (order e _) = d ∙ sym e
one_broken_first (order d o) (number e i _) = absurd (o i)
one_broken_first (order d o) (range e i _ _) = absurd (o i)
one_broken_first (number d i n) (order e o) = absurd (o i)
one_broken_first (number d i n) (number e _ _) = d ∙ sym e
one_broken_first (number d i n) (range e _ m _) = absurd (n m)
one_broken_first (range d i m g) (order e o) = absurd (o i)
one_broken_first (range d i m g) (number e _ n) = absurd (n m)
one_broken_first (range d i m g) (range e _ _ _) = d ∙ sym e

pub broken_is_no_0 : {p : Plan} {r : Record} {k : ℕ} → BreaksFirst p r k → k ≡ accepted → ⊥
broken_is_no_0 (order d _) e = omega arith
broken_is_no_0 (number d _ _) e = omega arith
broken_is_no_0 (range d _ _ _) e = omega arith

-- ---- the number that the guards give

pub rule_cases : (p : Plan) → Rising p.links → (r : Record) (P : ℕ → Type 0) → ((k : ℕ) → BreaksFirst p r k → P k) → (Keeps p r → P accepted) → P (rule_of (network_of p) r)
unfolding network_of
rule_cases p rising End P b k =
    end_cases P (length p.nodes) (λ e. b out_of_order (order refl (λ h. omega arith))) (λ h. k (h, tt, tt))
rule_cases p rising (Rounds v) P b k =
    rounds_cases P p.rounds v (λ o. b out_of_order (order refl o)) (λ e g. b out_of_range (range refl e tt g)) (λ e l m. k (e, tt, (l, m)))
rule_cases p rising (Node n parent start) P b k =
    node_cases P p.rounds (length p.nodes) (length p.links) n (λ o. b out_of_order (order refl (λ i. o (i.0, ap length i.1, i.2))))
    (λ h e i m. b too_many (number refl (h, none_is_empty p.links e, i) (λ l. omega arith)))
    (λ h e i l. k ((h, none_is_empty p.links e, i), l, tt))
rule_cases p rising (Link a b flag) P broken k =
    link_cases P (length p.nodes) (length p.links) (follows_of (network_of p) a b) a b flag
    (λ o. broken out_of_order (order refl (λ i. o (i.0, rising_follows p x i.1))))
    (λ h f m. broken too_many (number refl (h, follows_rising p x rising f) (λ l. omega arith)))
    (λ h f l g. broken out_of_range (range refl (h, follows_rising p x rising f) l g))
    (λ h f l g. k ((h, follows_rising p x rising f), l, g))
  where
    x : PlanLink
    x = record { a = a; b = b; flag = flag }

module _ (p : Plan) (rising : Rising p.links) (r : Record) where
  pub kept_gives_0 : Keeps p r → rule_of (network_of p) r ≡ accepted
  kept_gives_0 w = rule_cases p rising r (λ x. x ≡ accepted) (λ k b. absurd (kept_none_broken p r w b)) (λ _. refl)

  pub broken_gives_its_number : (k : ℕ) → BreaksFirst p r k → rule_of (network_of p) r ≡ k
  broken_gives_its_number k b =
      rule_cases p rising r (λ x. x ≡ k) (λ j c. one_broken_first c b) (λ w. absurd (kept_none_broken p r w b))

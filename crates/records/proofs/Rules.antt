-- What each rule of one record answers, by cases: the number, and what the record breaks or keeps. A rule is a row of guards, and these are
-- its ways through, with what the tests on each way say together.
-- Assumes nothing.
use Prim.Native.Nat.{ℕ, ◌<◌, ◌≤◌}
use native.Mathlib.Omega.{arith}
use mathlib.Core.Path.{◌≡◌}
use mathlib.Core.Bool.{Bool, true}
use Rattle.laws.specs.Choice.{if_b, if_lt, if_eq}
use Rattle.laws.proofs.Choice.{lt_elim, eq_elim, b_elim, true_not_false}
use Rattle.network.specs.declared.Network.{Network}
use Rattle.records.specs.declared.Record.{Record}
use Rattle.records.specs.declared.Record.TheVariants.{End, Rounds, Node, Link}
use Rattle.records.specs.Numbers.{accepted, out_of_order, too_many, out_of_range}
use Rattle.records.specs.Rules.{rounds_rule, node_rule, link_rule, end_rule, follows_of, rule_of}
use Rattle.records.specs.Reader.{HasRoom}

pub rounds_cases :
    (P : ℕ → Type 0) (rounds v : ℕ)
    → ((rounds ≡ 0 → ⊥) → P out_of_order)
    → (rounds ≡ 0 → ((1 ≤ v) × (v ≤ 10000) → ⊥) → P out_of_range)
    → (rounds ≡ 0 → 1 ≤ v → v ≤ 10000 → P accepted)
    → P (rounds_rule rounds v)
unfolding rounds_rule
rounds_cases P rounds v o r k =
    lt_elim P 0 rounds out_of_order (if_eq v 0 out_of_range (if_lt 10000 v out_of_range accepted)) (λ h. o (λ e. omega arith))
    (λ h. eq_elim P v 0 out_of_range (if_lt 10000 v out_of_range accepted) (λ e. r (omega arith) (λ w. omega arith))
    (λ d. lt_elim P 10000 v out_of_range accepted (λ l. r (omega arith) (λ w. omega arith)) (λ l. k (omega arith) (omega arith) l)))

pub node_cases :
    (P : ℕ → Type 0) (rounds nodes links number : ℕ)
    → (((0 < rounds) × (links ≡ 0) × (number ≡ nodes) → ⊥) → P out_of_order)
    → (0 < rounds → links ≡ 0 → number ≡ nodes → 64 ≤ nodes → P too_many)
    → (0 < rounds → links ≡ 0 → number ≡ nodes → nodes < 64 → P accepted)
    → P (node_rule rounds nodes links number)
unfolding node_rule
node_cases P rounds nodes links number o m k =
    eq_elim P rounds 0 out_of_order (if_lt 0 links out_of_order (if_eq number nodes (if_lt nodes 64 accepted too_many) out_of_order))
    (λ e. o (λ w. omega arith))
    (λ d. lt_elim P 0 links out_of_order (if_eq number nodes (if_lt nodes 64 accepted too_many) out_of_order) (λ h. o (λ w. omega arith))
    (λ h. eq_elim P number nodes (if_lt nodes 64 accepted too_many) out_of_order
    (λ e. lt_elim P nodes 64 accepted too_many (k (omega arith) (omega arith) e) (m (omega arith) (omega arith) e))
    (λ n. o (λ w. n w.2))))

pub link_cases :
    (P : ℕ → Type 0) (nodes links : ℕ) (follows : Bool) (a b flag : ℕ)
    → (((0 < nodes) × (follows ≡ true) → ⊥) → P out_of_order)
    → (0 < nodes → follows ≡ true → 128 ≤ links → P too_many)
    → (0 < nodes → follows ≡ true → links < 128 → ((a < b) × (b < nodes) × (flag ≤ 1) → ⊥) → P out_of_range)
    → (0 < nodes → follows ≡ true → links < 128 → (a < b) × (b < nodes) × (flag ≤ 1) → P accepted)
    → P (link_rule nodes links follows a b flag)
unfolding link_rule
link_cases P nodes links follows a b flag o m r k =
    eq_elim P nodes 0 out_of_order (if_b follows (if_lt links 128 ranges too_many) out_of_order) (λ e. o (λ w. omega arith))
    (λ d. b_elim P follows (if_lt links 128 ranges too_many) out_of_order
    (λ f. lt_elim P links 128 ranges too_many (λ l. within (omega arith) f l) (m (omega arith) f))
    (λ f. o (λ w. true_not_false follows w.1 f)))
  where
    ranges : ℕ
    ranges = if_lt a b (if_lt b nodes (if_lt flag 2 accepted out_of_range) out_of_range) out_of_range

    within : 0 < nodes → follows ≡ true → links < 128 → P ranges
    within n f l =
        lt_elim P a b (if_lt b nodes (if_lt flag 2 accepted out_of_range) out_of_range) out_of_range
        (λ i. lt_elim P b nodes (if_lt flag 2 accepted out_of_range) out_of_range
        (λ j. lt_elim P flag 2 accepted out_of_range (λ h. k n f l (i, j, omega arith)) (λ h. r n f l (λ w. omega arith)))
        (λ j. r n f l (λ w. omega arith)))
        (λ i. r n f l (λ w. omega arith))

pub end_cases : (P : ℕ → Type 0) (nodes : ℕ) → (nodes ≡ 0 → P out_of_order) → (0 < nodes → P accepted) → P (end_rule nodes)
unfolding end_rule
end_cases P nodes o k = eq_elim P nodes 0 out_of_order accepted o (λ d. k (omega arith))

-- a record that keeps the rules has a place in the lists
pub kept_has_room : (net : Network) (r : Record) → rule_of net r ≡ accepted → HasRoom net r
kept_has_room net End e = tt
kept_has_room net (Rounds v) e = tt
kept_has_room net (Node number parent start) e =
    node_cases (λ x. x ≡ 0 → net.nodes < 64) net.rounds net.nodes net.links number (λ _ z. absurd (omega arith)) (λ _ _ _ _ z. absurd (omega arith))
    (λ _ _ _ h _. h)
    e
kept_has_room net (Link a b flag) e =
    link_cases (λ x. x ≡ 0 → net.links < 128) net.nodes net.links (follows_of net a b) a b flag (λ _ z. absurd (omega arith)) (λ _ _ _ z. absurd (omega arith))
    (λ _ _ _ _ z. absurd (omega arith))
    (λ _ _ h _ _. h)
    e

-- Rules 1 to 5 of a plan are kept by any plan with the same rounds, values and links whose parents are bytes and whose flags are 0 or 1: nothing
-- else of a record is looked at.
-- Assumes nothing.
use Prim.Native.Nat.{ℕ, suc, ◌<◌, ◌≤◌}
use native.Mathlib.Omega.{arith}
use mathlib.Core.Path.{◌≡◌, sym, subst}
use mathlib.Core.Logic.{inl, inr, ⊎_elim}
use mathlib.Core.List.{List, [], ◌∷◌, map}
use lib.ListN.{length, get_or}
use Rattle.records.specs.Plan.{Plan, PlanNode, PlanLink, NodesFit, LinksFit, Above, RisingFrom, Rising, Keeps1to5}
use Rattle.layout.specs.LaidOut.{parents_in, flags_in, SameWires}
use Rattle.layout.proofs.Wires.{wires_nodes, wires_links}

nodes_fit_too : (xs ys : List PlanNode) → map (λ x. x.start) ys ≡ map (λ x. x.start) xs → ((i : ℕ) → i < length ys → get_or (map (λ x. x.parent) ys) i 0 < 256) → NodesFit xs → NodesFit ys
unfolding NodesFit
nodes_fit_too xs [] e b f = tt
nodes_fit_too [] (y ∷ ys) e b f =
    let z : ◌≡◌ {A = ℕ} 0 1 = cc in
    absurd (omega arith)
nodes_fit_too (x ∷ xs) (y ∷ ys) e b f =
    let start : y.start ≡ x.start = cc in
    (b 0 (omega arith), omega (arith, f.1), nodes_fit_too xs ys (cc) (λ i h. b (suc i) (omega arith)) f.2)

links_fit_too :
    (count : ℕ) (xs ys : List PlanLink) → map (λ x. x.a) ys ≡ map (λ x. x.a) xs → map (λ x. x.b) ys ≡ map (λ x. x.b) xs
    → ((l : ℕ) → l < length ys → get_or (map (λ x. x.flag) ys) l 0 ≤ 1) → LinksFit count xs → LinksFit count ys
unfolding LinksFit
links_fit_too count xs [] e g b f = tt
links_fit_too count [] (y ∷ ys) e g b f =
    let z : ◌≡◌ {A = ℕ} 0 1 = cc in
    absurd (omega arith)
links_fit_too count (x ∷ xs) (y ∷ ys) e g b f =
    let a : y.a ≡ x.a = cc in
    let b' : y.b ≡ x.b = cc in
    ((omega (arith, f.0.0), omega (arith, f.0.1), b 0 (omega arith)), links_fit_too count xs ys (cc) (cc) (λ l h. b (suc l) (omega arith)) f.1)

above_too : (x x' y y' : PlanLink) → x'.a ≡ x.a → x'.b ≡ x.b → y'.a ≡ y.a → y'.b ≡ y.b → Above x y → Above x' y'
above_too x x' y y' a b c d = ⊎_elim (λ l. inl (omega arith)) (λ w. inr (omega arith))

rising_from_too :
    (x y : PlanLink) (xs ys : List PlanLink) → y.a ≡ x.a → y.b ≡ x.b
    → map (λ z. z.a) ys ≡ map (λ z. z.a) xs → map (λ z. z.b) ys ≡ map (λ z. z.b) xs → RisingFrom x xs → RisingFrom y ys
unfolding RisingFrom
rising_from_too x y xs [] a b e g r = tt
rising_from_too x y [] (v ∷ vs) a b e g r =
    let z : ◌≡◌ {A = ℕ} 0 1 = cc in
    absurd (omega arith)
rising_from_too x y (u ∷ us) (v ∷ vs) a b e g r =
    let c : v.a ≡ u.a = cc in
    let d : v.b ≡ u.b = cc in
    (above_too x y u v a b c d r.0, rising_from_too u v us vs c d (cc) (cc) r.1)

rising_too : (xs ys : List PlanLink) → map (λ z. z.a) ys ≡ map (λ z. z.a) xs → map (λ z. z.b) ys ≡ map (λ z. z.b) xs → Rising xs → Rising ys
unfolding Rising
rising_too xs [] e g r = tt
rising_too [] (y ∷ ys) e g r =
    let z : ◌≡◌ {A = ℕ} 0 1 = cc in
    absurd (omega arith)
rising_too (x ∷ xs) (y ∷ ys) e g r = rising_from_too x y xs ys (cc) (cc) (cc) (cc) r

pub keeps_too :
    (p q : Plan) → SameWires p q → Keeps1to5 p
    → ((i : ℕ) → i < length q.nodes → get_or (parents_in q) i 0 < 256) → ((l : ℕ) → l < length q.links → get_or (flags_in q) l 0 ≤ 1) → Keeps1to5 q
keeps_too p q w K parents flags =
    let n = wires_nodes w in
    let l = wires_links w in
    record {
      some_round = omega (arith, w.rounds, K.some_round);
      at_most_10000_rounds = omega (arith, w.rounds, K.at_most_10000_rounds);
      some_node = omega (arith, K.some_node);
      at_most_64_nodes = omega (arith, K.at_most_64_nodes);
      at_most_128_links = omega (arith, K.at_most_128_links);
      nodes_fit = nodes_fit_too p.nodes q.nodes w.starts parents K.nodes_fit;
      links_fit = links_fit_too (length q.nodes) p.links q.links w.lowers w.uppers flags (subst (λ k. LinksFit k p.links) (sym n) K.links_fit);
      links_rise = rising_too p.links q.links w.lowers w.uppers K.links_rise;
    }

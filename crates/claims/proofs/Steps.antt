-- The loop claims by the rule. Between two steps of it, whoever was claimed before the i-th node has nobody left to claim (`done`). So a root is
-- taken only once nobody may claim, and while the i-th node claims it is the earliest that may; it takes the lowest of its unclaimed neighbours
-- each time, until it has none.
-- Assumes nothing.
use Prim.Native.Nat.{ℕ, zero, suc, ◌+◌, ◌<◌, ◌≤◌}
use native.Mathlib.Nat.{le_refl}
use native.Mathlib.Numerals.{add-one}
use native.Mathlib.Omega.{arith}
use native.Mathlib.Decide.{ℕ_discrete}
use mathlib.Core.Path.{◌≡◌, refl, sym, ◌∙◌, ap, subst}
use mathlib.Core.Bool.{Bool, true}
use mathlib.Core.List.{List}
use lib.ListN.{length, get_or}
use Rattle.laws.specs.Below.{fold_below}
use Rattle.laws.proofs.Choice.{lt_elim, true_not_false}
use Rattle.laws.proofs.Entries.{repeated_at}
use Rattle.nodeset.specs.Marks.{member, lowest_of}
use Rattle.nodeset.proofs.Marks.{empty_has_none, lowest_is_in, lowest_below}
use Rattle.claims.specs.Claimed.{MayClaim, MakesClaim, Turn, root, claim, ClaimedSo}
use Rattle.claims.specs.Claiming.{Claiming, put, all_nodes, nobody, rooted, unclaimed_of, claims_all, spread, step, claim_all, parents_of, claims_of, near_by}
use Rattle.claims.proofs.Marks.{in_both, in_first, in_second, lowest_least, lowest_common, lowest_second, all_in_lem, all_below_lem, all_fits}
use Rattle.claims.proofs.Each.{claims_keep, none_left}
use Rattle.claims.proofs.Begun.{Begun, OneMore, Done, old_apart, done_more, begun_none, begun_more, begun_room, begun_full, begun_end}
use Rattle.claims.proofs.Puts.{Filled, free_marked, put_more, put_filled}

-- what holds before the first step, and after each if before it, holds after the last
fold_steps : {A : Type 0} (P : ℕ → A → Type 0) (f : ℕ → A → A) (z : A) (n : ℕ) → P 0 z → ((k : ℕ) → k < n → (x : A) → P k x → P (suc k) (f k x)) → P n (fold_below f z n)
unfolding fold_below
fold_steps P f z zero p next = p
fold_steps P f z (suc n) p next = next n (le_refl (suc n)) (fold_below f z n) (fold_steps P f z n p (λ k h. next k (omega arith)))

module _ (sets : List ℕ) (n depth : ℕ) where
  abbrev near : ℕ → ℕ → Bool
  near = near_by sets

  -- x may claim q now
  abbrev MayNow : Claiming → ℕ → ℕ → Type 0
  MayNow s x q = MayClaim near n depth (claims_of s) s.count x q

  -- the state before step i
  record BeforeStep (i : ℕ) (s : Claiming) : Type 0 where
    begun : Begun near n depth (claims_of s) s.count
    filled : Filled n s
    -- whoever was claimed before the i-th node has nobody left to claim
    done : Done near n depth (claims_of s) s.count i
    reached : i ≤ s.count

  -- the state within step i: the i-th node is x, and lies v deep
  record WithinStep (i x v : ℕ) (s : Claiming) : Type 0 where
    before : BeforeStep i s
    there : i < s.count
    node : get_or s.order i 0 ≡ x
    as_deep : get_or s.deep x 0 ≡ v

  -- ---- one claim

  module _ {i : ℕ} {s : Claiming} (t : BeforeStep i s) (x p v : ℕ) (free : member s.unclaimed.marks p ≡ true) where
    room : s.count < n
    room = begun_room t.begun p (t.filled.nodes p free) (t.filled.marked p free)

    one_more : OneMore n (claims_of s) (claims_of (put x p v s)) s.count p x v
    one_more = put_more t.filled room x p v free

    -- the claim that the turn asks for
    put_kept : Turn near n depth (claims_of s) s.count p x v → BeforeStep i (put x p v s)
    unfolding put
    put_kept a =
        record {
          begun = subst (Begun near n depth (claims_of (put x p v s))) (sym (add-one s.count)) (begun_more t.begun one_more a);
          filled = put_filled t.filled room x p v free;
          done = subst (λ m. Done near n depth (claims_of (put x p v s)) m i) (sym (add-one s.count)) (done_more one_more t.reached t.done);
          reached = omega (arith, t.reached);
        }

  -- ---- a root

  module _ {i : ℕ} {s : Claiming} (t : BeforeStep i s) (h : i < n) (none : s.count ≤ i) where
    abbrev left : ℕ
    left = s.unclaimed.marks

    some_left : 0 < left
    some_left =
        let all : left ≡ 0 → ⊥ = λ e. omega (arith, begun_full t.begun (λ q i. t.filled.unmarked q i (ap (λ m. member m q) e ∙ empty_has_none q))) in
        omega arith

    lowest_left : member left (lowest_of left) ≡ true
    lowest_left = lowest_is_in left (lowest_below left some_left t.filled.marks_fit)

    root_kept : BeforeStep i (put (lowest_of left) (lowest_of left) 0 s)
    root_kept =
        put_kept t (lowest_of left) (lowest_of left) 0 lowest_left (root (record {
          own_parent = refl;
          top = refl;
          nobody = λ y q a. omega (arith, t.done y q a, a.claimed);
          lowest = λ q i l. lowest_least left q (free_marked t.filled q i l);
        }))

  rooted_kept : (i : ℕ) (s : Claiming) → i < n → BeforeStep i s → BeforeStep i (rooted i s) × (i < (rooted i s).count)
  unfolding rooted put
  rooted_kept i s h t =
      lt_elim (λ r. BeforeStep i r × (i < r.count)) i s.count s (put (lowest_of s.unclaimed.marks) (lowest_of s.unclaimed.marks) 0 s) (λ l. (t, l))
      (λ l. (root_kept t h l, omega (arith, t.reached)))

  -- ---- the i-th node claims

  -- whom x may claim are its unclaimed neighbours
  abbrev to_claim : ℕ → Claiming → ℕ
  to_claim x s = unclaimed_of (get_or sets x 0) s

  to_claim_of : {x q : ℕ} {s : Claiming} → Filled n s → MayNow s x q → member (to_claim x s) q ≡ true
  to_claim_of {x} {q} {s} filled a =
      in_both (get_or sets x 0) s.unclaimed.marks q a.linked (free_marked filled q a.node a.unclaimed)

  module _ {i x v : ℕ} {s : Claiming} (above : v < depth) (g : WithinStep i x v s) where
    -- x is the i-th node
    turn_of_x : (x < n) × ((claims_of s).when x ≡ i)
    turn_of_x = subst (λ y. (y < n) × ((claims_of s).when y ≡ i)) g.node (g.before.begun.each i g.there)

    may_of : (q : ℕ) → member (to_claim x s) q ≡ true → MayNow s x q
    may_of q e =
        let free = in_second (get_or sets x 0) s.unclaimed.marks q e in
        record {
          claimer = turn_of_x.0;
          node = g.before.filled.nodes q free;
          claimed = omega (arith, turn_of_x.1, g.there);
          unclaimed = g.before.filled.marked q free;
          linked = in_first (get_or sets x 0) s.unclaimed.marks q e;
          above = omega (arith, g.as_deep);
        }

    claim_one : (to_claim x s ≡ 0 → ⊥) → WithinStep i x v (put x (lowest_of (to_claim x s)) (v + 1) s)
    unfolding put
    claim_one some =
        record {
          before = put_kept g.before x low (v + 1) free (claim asked);
          there = omega (arith, g.there);
          node = more.order_old i g.there ∙ g.node;
          as_deep = more.deep_old x (old_apart more x may.claimed) ∙ g.as_deep;
        }
      where
        low : ℕ
        low = lowest_of (to_claim x s)

        free : member s.unclaimed.marks low ≡ true
        free = lowest_second (get_or sets x 0) s.unclaimed.marks g.before.filled.marks_fit some

        may : MayNow s x low
        may = may_of low (lowest_common (get_or sets x 0) s.unclaimed.marks g.before.filled.marks_fit some)

        more : OneMore n (claims_of s) (claims_of (put x low (v + 1) s)) s.count low x (v + 1)
        more = one_more g.before x low (v + 1) free

        asked : MakesClaim near n depth (claims_of s) s.count low x (v + 1)
        asked =
            record {
              may = may;
              below = omega (arith, g.as_deep);
              earliest = λ y q a. omega (arith, g.before.done y q a, turn_of_x.1);
              lowest = λ q a. lowest_least (to_claim x s) q (to_claim_of g.before.filled a);
            }

  -- x has nobody left to claim: on to the next
  spread_done : {i x : ℕ} {s : Claiming} → BeforeStep i s → i < s.count → get_or s.order i 0 ≡ x → ((q : ℕ) → MayNow s x q → ⊥) → BeforeStep (suc i) s
  spread_done {i} {x} {s} t l e nobody = record { begun = t.begun; filled = t.filled; done = done; reached = l }
    where
      done : (y q : ℕ) → MayNow s y q → suc i ≤ (claims_of s).when y
      done y q a = at (ℕ_discrete ((claims_of s).when y) i)
        where
          at : Dec ((claims_of s).when y ≡ i) → suc i ≤ (claims_of s).when y
          at (yes f) =
              let same : y ≡ x = sym (t.begun.once y a.claimer a.claimed) ∙ ap (claims_of s).order f ∙ e in
              absurd (nobody q (subst (λ z. MayNow s z q) same a))
          at (no d) = omega (arith, t.done y q a)

  spread_kept : (i : ℕ) (s : Claiming) → BeforeStep i s → i < s.count → BeforeStep (suc i) (spread sets depth (get_or s.order i 0) s)
  unfolding spread
  spread_kept i s t l =
      lt_elim (λ r. BeforeStep (suc i) r) v depth (claims_all (get_or sets x 0) x (v + 1) s) s all_claimed
      (λ deep. spread_done t l refl (λ q a. omega (arith, a.above)))
    where
      x : ℕ
      x = get_or s.order i 0

      v : ℕ
      v = get_or s.deep x 0

      all_claimed : v < depth → BeforeStep (suc i) (claims_all (get_or sets x 0) x (v + 1) s)
      all_claimed above =
          let within : WithinStep i x v s = record { before = t; there = l; node = refl; as_deep = refl } in
          let g = claims_keep (get_or sets x 0) x (v + 1) (WithinStep i x v) (λ r some g. claim_one above g some) s within in
          let none = none_left (get_or sets x 0) x (v + 1) s t.filled.marks_fit in
          spread_done g.before g.there g.node (λ q a. true_not_false _ (to_claim_of g.before.filled a) (ap (λ m. member m q) none ∙ empty_has_none q))

  -- ---- all steps

  step_kept : (i : ℕ) → i < n → (s : Claiming) → BeforeStep i s → BeforeStep (suc i) (step sets depth i s)
  unfolding step
  step_kept i h s t =
      let r = rooted_kept i s h t in
      spread_kept i (rooted i s) r.0 r.1

  module _ (few : n ≤ 64) where
    start : BeforeStep 0 (nobody n)
    unfolding nobody
    start =
        record {
          begun = begun_none (claims_of (nobody n));
          filled =
              record {
                few = few;
                order_length = refl;
                by_length = refl;
                deep_length = refl;
                past = λ p _. repeated_at 64 0 p;
                marks_fit = all_fits n;
                nodes = all_below_lem n;
                marked = λ p e. omega arith;
                unmarked = λ p h e. absurd (true_not_false (member (all_nodes n) p) (all_in_lem n few p h) e);
              };
          done = λ y q a. omega arith;
          reached = omega arith;
        }

    end : BeforeStep n (claim_all sets n depth)
    unfolding claim_all
    end = fold_steps BeforeStep (step sets depth) (nobody n) n start step_kept

    -- what the loop makes of the lists is claimed so
    pub claimed_so : ClaimedSo (near_by sets) n depth (claims_of (claim_all sets n depth))
    claimed_so = begun_end end.begun end.reached

    pub parents_length : length (parents_of sets n depth) ≡ 64
    unfolding parents_of
    parents_length = end.filled.by_length

    -- "0 in the places past" the nodes
    pub parents_past : (p : ℕ) → n ≤ p → get_or (parents_of sets n depth) p 0 ≡ 0
    unfolding parents_of
    parents_past = end.filled.past

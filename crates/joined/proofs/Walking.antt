-- Why the walk with two sets finds the joined nodes. Whatever is reached is joined to node 0; whatever is reached and no longer to visit is done, so
-- that all that is linked to it is reached too. When no node is left to visit every reached node is done: the reached nodes are closed under links,
-- and so they are all the joined nodes. A node becomes one to visit when it is reached, and never again, so the walk ends. All of this holds in
-- whatever order the nodes are visited.
-- Assumes nothing.
use Prim.Native.Nat.{ℕ, ◌+◌, ◌-◌, ◌*◌, ◌^◌, ◌<◌, ◌≤◌}
use native.Mathlib.Nat.{le_refl, le_trans}
use native.Mathlib.Omega.{arith}
use native.Mathlib.Decide.{ℕ_discrete}
use mathlib.Core.Path.{◌≡◌, refl, sym, ◌∙◌, ap, subst}
use mathlib.Core.Logic.{◌⊎◌, inl, inr, ⊎_elim}
use mathlib.Core.Bool.{true, false}
use mathlib.Core.List.{List}
use lib.ListN.{get_or}
use Rattle.laws.specs.Choice.{if_b, if_eq}
use Rattle.laws.proofs.Choice.{lt_elim, b_elim, eq_elim, if_lt_yes, true_not_false}
use Rattle.laws.proofs.Below.{fold_keeps}
use Rattle.nodeset.specs.Marks.{member, inserted, removed, size_of}
use Rattle.nodeset.proofs.Marks.{inserted_is_in, removed_is_out, removed_keeps_others, empty_has_none}
use Rattle.nodeset.proofs.Members.{size_inserted, size_rest, size_at_most_64}
use Rattle.network.specs.Sets.{Ends, rising, falling}
use Rattle.links.specs.Links.{Linked}
use Rattle.joined.specs.declared.Walk.{Walk}
use Rattle.joined.specs.Joined.{joined_marks, Joined, start, along}
use Rattle.joined.specs.Walk.{walk, marked, met_of, crossed_of, visited_of, taken_of}
use Rattle.joined.proofs.Folds.{fold_gains, inserted_keeps, in_inserted, size_at_most_one_more}
use Rattle.joined.proofs.Grow.{marks_unique}

-- p is reached
abbrev pub Reached : Walk → ℕ → Type 0
Reached w p = member w.reached.marks p ≡ true

-- p is still to visit
abbrev pub ToVisit : Walk → ℕ → Type 0
ToVisit w p = member w.todo.marks p ≡ true

-- no node is being visited
abbrev pub Idle : ℕ → Type 0
Idle p = ⊥

-- the walk starts with node 0 reached and still to visit
abbrev pub start_of : Walk
start_of = walk (inserted 0 0) (inserted 0 0)

-- what lies ahead of the walk: the nodes still to visit, and twice those not reached yet
abbrev pub ahead : Walk → ℕ
ahead w = 2 * (64 - size_of w.reached.marks) + size_of w.todo.marks

-- ---- the two choices that a step of the walk makes

module _ (P : Walk → Type 0) (nodes : ℕ) (w : Walk) where
  met_elim : (q : ℕ) → P w → (q < nodes → member w.reached.marks q ≡ false → P (marked q w)) → P (met_of nodes q w)
  unfolding met_of
  met_elim q same more =
      lt_elim P q nodes (if_b (member w.reached.marks q) w (marked q w)) w
      (λ h. b_elim P (member w.reached.marks q) w (marked q w) (λ _. same) (more h))
      (λ _. same)

  crossed_elim :
      (p a b : ℕ) → (a ≡ p → P (met_of nodes b w)) → ((a ≡ p → ⊥) → b ≡ p → P (met_of nodes a w)) → ((a ≡ p → ⊥) → (b ≡ p → ⊥) → P w)
      → P (crossed_of nodes p a b w)
  unfolding crossed_of
  crossed_elim p a b upwards downwards neither =
      eq_elim P a p (met_of nodes b w) (if_eq b p (met_of nodes a w) w) upwards (λ d. eq_elim P b p (met_of nodes a w) w (downwards d) (neither d))

-- ---- how the walk stands

module _ (lowers uppers : List ℕ) (links nodes : ℕ) where
  -- every node that is linked to p is reached
  abbrev pub DoneIn : Walk → ℕ → Type 0
  DoneIn w p = (q : ℕ) → Linked lowers uppers links p q → q < nodes → Reached w q

  -- how the walk stands while the busy nodes are visited
  pub record WalkingIn (Busy : ℕ → Type 0) (w : Walk) : Type 0 where
    -- the walk starts at node 0
    pub zero_reached : Reached w 0
    -- whatever is reached is joined to node 0
    pub reached_joined : (p : ℕ) → Reached w p → Joined lowers uppers links nodes p
    -- whatever is still to visit is reached
    pub todo_reached : (p : ℕ) → ToVisit w p → Reached w p
    -- whatever is reached is being visited, still to visit, or done
    pub accounted : (p : ℕ) → Reached w p → Busy p ⊎ (ToVisit w p ⊎ DoneIn w p)

  -- one turn: p, which was still to visit, is visited
  abbrev pub turned_of : ℕ → Walk → Walk
  turned_of p w = visited_of lowers uppers links nodes p (taken_of p w)

module _ (lowers uppers : List ℕ) (links nodes : ℕ) (fits : nodes ≤ 64) where
  abbrev Done : Walk → ℕ → Type 0
  Done = DoneIn lowers uppers links nodes

  abbrev Walking : (ℕ → Type 0) → Walk → Type 0
  Walking = WalkingIn lowers uppers links nodes

  abbrev turned : ℕ → Walk → Walk
  turned = turned_of lowers uppers links nodes

  module _ (Busy : ℕ → Type 0) where
    -- one more node is reached
    marked_walking : (q : ℕ) (w : Walk) → q < 64 → Joined lowers uppers links nodes q → Walking Busy w → Walking Busy (marked q w)
    marked_walking q w h j x =
        record {
          zero_reached = keeps 0 x.zero_reached;
          reached_joined = λ p i. ⊎_elim (λ e. subst (Joined lowers uppers links nodes) (sym e) j) (x.reached_joined p) (in_inserted w.reached.marks q p i);
          todo_reached =
              λ p l. ⊎_elim (λ e. subst (Reached (marked q w)) (sym e) (inserted_is_in w.reached.marks q h)) (λ m. keeps p (x.todo_reached p m)) (in_inserted w.todo.marks q p l);
          accounted =
              λ p i. ⊎_elim (λ e. inr (inl (subst (ToVisit (marked q w)) (sym e) (inserted_is_in w.todo.marks q h)))) (λ s. still p (x.accounted p s))
              (in_inserted w.reached.marks q p i);
        }
      where
        keeps : (p : ℕ) → Reached w p → Reached (marked q w) p
        keeps p = inserted_keeps w.reached.marks q p

        still : (p : ℕ) → Busy p ⊎ (ToVisit w p ⊎ Done w p) → Busy p ⊎ (ToVisit (marked q w) p ⊎ Done (marked q w) p)
        still p (inl b) = inl b
        still p (inr (inl y)) = inr (inl (inserted_keeps w.todo.marks q p y))
        still p (inr (inr d)) = inr (inr (λ r l i. keeps r (d r l i)))

    met_walking : (q : ℕ) (w : Walk) → (q < nodes → Joined lowers uppers links nodes q) → Walking Busy w → Walking Busy (met_of nodes q w)
    met_walking q w j x = met_elim (Walking Busy) nodes w q x (λ h _. marked_walking q w (omega arith) (j h) x)

    crossed_walking : (p l : ℕ) (w : Walk) → l < links → Joined lowers uppers links nodes p → Walking Busy w → Walking Busy (crossed_of nodes p (get_or lowers l 0) (get_or uppers l 0) w)
    crossed_walking p l w h j x =
        crossed_elim (Walking Busy) nodes w p a b (λ e. met_walking b w (along j (record { link = l; below = h; ends = rising e refl })) x)
        (λ _ e. met_walking a w (along j (record { link = l; below = h; ends = falling refl e })) x)
        (λ _ _. x)
      where
        a : ℕ
        a = get_or lowers l 0

        b : ℕ
        b = get_or uppers l 0

    visited_walking : (p : ℕ) (w : Walk) → Joined lowers uppers links nodes p → Walking Busy w → Walking Busy (visited_of lowers uppers links nodes p w)
    unfolding visited_of
    visited_walking p w j x =
        fold_keeps (Walking Busy) (λ l. crossed_of nodes p (get_or lowers l 0) (get_or uppers l 0)) w links x (λ l h y. crossed_walking p l y h j)

  -- ---- a visit reaches all that is linked to the node

  met_keeps : (q k : ℕ) (w : Walk) → Reached w k → Reached (met_of nodes q w) k
  met_keeps q k w i = met_elim (λ y. Reached y k) nodes w q i (λ _ _. inserted_keeps w.reached.marks q k i)

  met_adds : (q : ℕ) (w : Walk) → q < nodes → Reached (met_of nodes q w) q
  unfolding met_of
  met_adds q w h =
      subst (λ y. Reached y q) (sym (if_lt_yes q nodes (if_b (member w.reached.marks q) w (marked q w)) w h))
      (b_elim (λ y. Reached y q) (member w.reached.marks q) w (marked q w) (λ i. i) (λ _. inserted_is_in w.reached.marks q (omega arith)))

  crossed_keeps : (p a b k : ℕ) (w : Walk) → Reached w k → Reached (crossed_of nodes p a b w) k
  crossed_keeps p a b k w i =
      crossed_elim (λ y. Reached y k) nodes w p a b (λ _. met_keeps b k w i) (λ _ _. met_keeps a k w i) (λ _ _. i)

  crossed_adds : (p q l : ℕ) (w : Walk) → Ends lowers uppers l p q → q < nodes → Reached (crossed_of nodes p (get_or lowers l 0) (get_or uppers l 0) w) q
  crossed_adds p q l w ends h =
      crossed_elim (λ y. Reached y q) nodes w p a b
      (λ e. subst (Reached (met_of nodes b w)) (to_upper e ends) (met_adds b w (omega (arith, to_upper e ends))))
      (λ d _. subst (Reached (met_of nodes a w)) (to_lower d ends) (met_adds a w (omega (arith, to_lower d ends))))
      (λ d f. absurd (neither d f ends))
    where
      a : ℕ
      a = get_or lowers l 0

      b : ℕ
      b = get_or uppers l 0

      to_upper : a ≡ p → Ends lowers uppers l p q → b ≡ q
      to_upper e (rising _ f) = f
      to_upper e (falling g f) = f ∙ sym e ∙ g

      to_lower : (a ≡ p → ⊥) → Ends lowers uppers l p q → a ≡ q
      to_lower d (rising e _) = absurd (d e)
      to_lower d (falling e _) = e

      neither : (a ≡ p → ⊥) → (b ≡ p → ⊥) → Ends lowers uppers l p q → ⊥
      neither d f (rising e _) = d e
      neither d f (falling _ e) = f e

  visited_done : (p : ℕ) (w : Walk) → Done (visited_of lowers uppers links nodes p w) p
  unfolding visited_of
  visited_done p w q l h =
      fold_gains (λ _. Unit {0}) (λ y. Reached y q) (λ k. crossed_of nodes p (get_or lowers k 0) (get_or uppers k 0)) w links l.link l.below tt (λ _ _ _. tt)
      (λ y _. crossed_adds p q l.link y l.ends h)
      (λ k y. crossed_keeps p (get_or lowers k 0) (get_or uppers k 0) q y)

  -- ---- one turn

  module _ (p : ℕ) (w : Walk) (x : Walking Idle w) where
    taken_walking : Walking (λ k. k ≡ p) (taken_of p w)
    taken_walking =
        record {
          zero_reached = x.zero_reached;
          reached_joined = x.reached_joined;
          todo_reached = λ k t. x.todo_reached k (was k t (ℕ_discrete k p));
          accounted = λ k i. still k (ℕ_discrete k p) (x.accounted k i);
        }
      where
        was : (k : ℕ) → ToVisit (taken_of p w) k → Dec (k ≡ p) → ToVisit w k
        was k t (yes e) = absurd (true_not_false (member (removed w.todo.marks p) k) t (ap (member (removed w.todo.marks p)) e ∙ removed_is_out w.todo.marks p))
        was k t (no d) = sym (removed_keeps_others w.todo.marks p k d) ∙ t

        still : (k : ℕ) → Dec (k ≡ p) → Idle k ⊎ (ToVisit w k ⊎ Done w k) → (k ≡ p) ⊎ (ToVisit (taken_of p w) k ⊎ Done (taken_of p w) k)
        still k (yes e) _ = inl e
        still k (no d) (inl no_one) = absurd no_one
        still k (no d) (inr (inl t)) = inr (inl (removed_keeps_others w.todo.marks p k d ∙ t))
        still k (no d) (inr (inr y)) = inr (inr y)

    pub turn_walking : ToVisit w p → Walking Idle (turned p w)
    turn_walking t =
        record {
          zero_reached = visited.zero_reached;
          reached_joined = visited.reached_joined;
          todo_reached = visited.todo_reached;
          accounted = λ k i. over k (visited.accounted k i);
        }
      where
        visited : Walking (λ k. k ≡ p) (turned p w)
        visited = visited_walking (λ k. k ≡ p) p (taken_of p w) (x.reached_joined p (x.todo_reached p t)) taken_walking

        over : (k : ℕ) → (k ≡ p) ⊎ (ToVisit (turned p w) k ⊎ Done (turned p w) k) → Idle k ⊎ (ToVisit (turned p w) k ⊎ Done (turned p w) k)
        over k (inl e) = inr (inr (subst (Done (turned p w)) (sym e) (visited_done p (taken_of p w))))
        over k (inr y) = inr y

  -- ---- how it starts

  pub start_walking : Walking Idle start_of
  start_walking =
      record {
        zero_reached = inserted_is_in 0 0 (omega arith);
        reached_joined = λ p i. start (sym (only p i));
        todo_reached = λ p l. l;
        accounted = λ p i. inr (inl i);
      }
    where
      only : (p : ℕ) → Reached start_of p → p ≡ 0
      only p i = ⊎_elim (λ e. e) (λ m. absurd (true_not_false (member 0 p) m (empty_has_none p))) (in_inserted 0 0 p i)

  -- ---- it ends with the joined nodes

  pub end_is_joined : (w : Walk) → w.reached.marks < 2 ^ 64 → w.todo.marks ≡ 0 → Walking Idle w → w.reached.marks ≡ joined_marks lowers uppers links nodes
  end_is_joined w f h x = marks_unique lowers uppers links nodes fits w.reached.marks f (λ q. (x.reached_joined q, joined_reached))
    where
      done : (p : ℕ) → Idle p ⊎ (ToVisit w p ⊎ Done w p) → Done w p
      done p (inl no_one) = absurd no_one
      done p (inr (inl y)) = absurd (true_not_false (member w.todo.marks p) y (ap (λ m. member m p) h ∙ empty_has_none p))
      done p (inr (inr d)) = d

      joined_reached : {q : ℕ} → Joined lowers uppers links nodes q → Reached w q
      joined_reached (start e) = subst (Reached w) e x.zero_reached
      joined_reached (along {p} {q} j l b) = done p (x.accounted p (joined_reached j)) q l b

  -- ---- and it ends: what lies ahead falls at each turn

  met_ahead : (q : ℕ) (w : Walk) → ahead (met_of nodes q w) ≤ ahead w
  met_ahead q w =
      met_elim (λ y. ahead y ≤ ahead w) nodes w q (le_refl (ahead w))
      (λ h o. omega (arith, size_inserted w.reached.marks q (omega arith) o, size_at_most_64 (inserted w.reached.marks q), size_at_most_one_more w.todo.marks q (omega arith)))

  crossed_ahead : (p a b : ℕ) (w : Walk) → ahead (crossed_of nodes p a b w) ≤ ahead w
  crossed_ahead p a b w =
      crossed_elim (λ y. ahead y ≤ ahead w) nodes w p a b (λ _. met_ahead b w) (λ _ _. met_ahead a w) (λ _ _. le_refl (ahead w))

  pub turn_ahead : (p : ℕ) (w : Walk) → ToVisit w p → ahead (turned p w) < ahead w
  unfolding visited_of
  turn_ahead p w t = omega (arith, size_rest w.todo.marks p t, no_more)
    where
      no_more : ahead (turned p w) ≤ ahead (taken_of p w)
      no_more =
          fold_keeps (λ y. ahead y ≤ ahead (taken_of p w)) (λ l. crossed_of nodes p (get_or lowers l 0) (get_or uppers l 0)) (taken_of p w) links (le_refl (ahead (taken_of p w)))
          (λ l _ y k. le_trans (crossed_ahead p (get_or lowers l 0) (get_or uppers l 0) y) k)

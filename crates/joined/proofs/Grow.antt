-- The marks that grow pass by pass are exactly the nodes that are joined to node 0. Each mark comes along a link from a marked node, so a
-- marked node is joined. A pass that changes nothing leaves a set that is closed under links, and a pass that changes something marks one
-- more of n nodes; so after n passes the set is closed, and every node along a path is in it.
-- Assumes nothing.
use Prim.Native.Nat.{ℕ, zero, suc, ◌^◌, ◌<◌, ◌≤◌}
use native.Mathlib.Omega.{arith}
use mathlib.Core.Path.{◌≡◌, refl, sym, ◌∙◌, ap, subst}
use mathlib.Core.Logic.{◌⊎◌, inl, inr, ⊎_elim, ◌↔◌}
use mathlib.Core.Bool.{Bool, true, false}
use mathlib.Core.List.{List}
use lib.ListN.{get_or}
use Rattle.laws.specs.Choice.{if_lt}
use Rattle.laws.specs.Below.{fold_below, count_below}
use Rattle.laws.proofs.Choice.{lt_elim, b_elim, same_test, if_b_yes, if_lt_yes}
use Rattle.laws.proofs.Below.{fold_keeps}
use Rattle.nodeset.specs.Marks.{member, inserted}
use Rattle.nodeset.proofs.Marks.{inserted_is_in, inserted_fits, empty_has_none, same_members}
use Rattle.network.specs.Sets.{Ends, rising, falling}
use Rattle.links.specs.Links.{Linked}
use Rattle.joined.specs.Joined.{follow, across, pass, joined_marks, Joined, start, along}
use Rattle.joined.proofs.Folds.{fold_gains, inserted_keeps, in_inserted, inserted_already, count_inserted}
use Rattle.links.proofs.Count.{count_at_most}

-- ---- one mark along a link

follow_elim : (P : ℕ → Type 0) (nodes p q s : ℕ) → P s → (member s p ≡ true → q < nodes → P (inserted s q)) → P (follow nodes p q s)
unfolding follow
follow_elim P nodes p q s same more =
    b_elim P (member s p) (if_lt q nodes (inserted s q) s) s (λ i. lt_elim P q nodes (inserted s q) s (λ h. more i h) (λ _. same)) (λ _. same)

follow_keeps : (nodes p q s k : ℕ) → member s k ≡ true → member (follow nodes p q s) k ≡ true
follow_keeps nodes p q s k i = follow_elim (λ x. member x k ≡ true) nodes p q s i (λ _ _. inserted_keeps s q k i)

follow_adds : (nodes p q s : ℕ) → nodes ≤ 64 → member s p ≡ true → q < nodes → member (follow nodes p q s) q ≡ true
unfolding follow
follow_adds nodes p q s n i h =
    let e : follow nodes p q s ≡ inserted s q = if_b_yes (member s p) (if_lt q nodes (inserted s q) s) s i ∙ if_lt_yes q nodes (inserted s q) s h in
    subst (λ x. member x q ≡ true) (sym e) (inserted_is_in s q (omega arith))

module _ (lowers uppers : List ℕ) (links nodes : ℕ) (fits : nodes ≤ 64) where
  abbrev lower : ℕ → ℕ
  lower l = get_or lowers l 0

  abbrev upper : ℕ → ℕ
  upper l = get_or uppers l 0

  across_keeps : (a b s k : ℕ) → member s k ≡ true → member (across nodes a b s) k ≡ true
  unfolding across
  across_keeps a b s k i = follow_keeps nodes b a (follow nodes a b s) k (follow_keeps nodes a b s k i)

  across_adds : (l p q s : ℕ) → Ends lowers uppers l p q → member s p ≡ true → q < nodes → member (across nodes (lower l) (upper l) s) q ≡ true
  unfolding across
  across_adds l p q s (rising e f) i h =
      follow_keeps nodes (upper l) (lower l) (follow nodes (lower l) (upper l) s) q
      (subst (λ x. member (follow nodes (lower l) x s) q ≡ true) (sym f) (follow_adds nodes (lower l) q s fits (subst (λ x. member s x ≡ true) (sym e) i) h))
  across_adds l p q s (falling e f) i h =
      subst (λ x. member (follow nodes (upper l) x (follow nodes (lower l) (upper l) s)) q ≡ true) (sym e)
      (follow_adds nodes (upper l) q (follow nodes (lower l) (upper l) s) fits (follow_keeps nodes (lower l) (upper l) s (upper l) (subst (λ x. member s x ≡ true) (sym f) i)) h)

  -- a pass marks whatever is linked to a marked node
  pass_adds : (p q s : ℕ) → Linked lowers uppers links p q → member s p ≡ true → q < nodes → member (pass lowers uppers links nodes s) q ≡ true
  unfolding pass
  pass_adds p q s l i h =
      fold_gains (λ x. member x p ≡ true) (λ x. member x q ≡ true) (λ k. across nodes (lower k) (upper k)) s links l.link l.below i
      (λ k x. across_keeps (lower k) (upper k) x p)
      (λ x j. across_adds l.link p q x l.ends j h)
      (λ k x. across_keeps (lower k) (upper k) x q)

  -- ---- what is marked is joined

  abbrev AllJoined : ℕ → Type 0
  AllJoined s = (k : ℕ) → member s k ≡ true → Joined lowers uppers links nodes k

  follow_joined : (p q s : ℕ) → Linked lowers uppers links p q → AllJoined s → AllJoined (follow nodes p q s)
  follow_joined p q s l all =
      follow_elim AllJoined nodes p q s all
      (λ i h k m. ⊎_elim (λ e. subst (Joined lowers uppers links nodes) (sym e) (along (all p i) l h)) (all k) (in_inserted s q k m))

  pass_joined : (s : ℕ) → AllJoined s → AllJoined (pass lowers uppers links nodes s)
  unfolding pass across
  pass_joined s all =
      fold_keeps AllJoined (λ l. across nodes (lower l) (upper l)) s links all
      (λ l h x a. follow_joined (upper l) (lower l) (follow nodes (lower l) (upper l) x) (record { link = l; below = h; ends = falling refl refl }) (follow_joined (lower l) (upper l) x (record { link = l; below = h; ends = rising refl refl }) a))

  pub marked_joined : AllJoined (joined_marks lowers uppers links nodes)
  unfolding joined_marks
  marked_joined =
      fold_keeps AllJoined (λ _. pass lowers uppers links nodes) (inserted 0 0) nodes only_zero (λ _ _ x. pass_joined x)
    where
      only_zero : AllJoined (inserted 0 0)
      only_zero k i = ⊎_elim (λ e. start (sym e)) (λ m. absurd (no_member m)) (in_inserted 0 0 k i)
        where
          no_member : member 0 k ≡ true → ⊥
          no_member m =
              let z : ◌≡◌ {A = ℕ} 0 1 = cc (empty_has_none k) in
              omega arith

  -- ---- what is joined is marked

  abbrev count : ℕ → ℕ
  count s = count_below (member s) nodes

  abbrev SameOrMore : ℕ → ℕ → Type 0
  SameOrMore s x = (x ≡ s) ⊎ (count s < count x)

  follow_grows : (p q s x : ℕ) → SameOrMore s x → SameOrMore s (follow nodes p q x)
  follow_grows p q s x grown = follow_elim (SameOrMore s) nodes p q x grown (λ _ h. at h (member x q) refl grown)
    where
      at : q < nodes → (t : Bool) → member x q ≡ t → SameOrMore s x → SameOrMore s (inserted x q)
      at h true i g = subst (SameOrMore s) (sym (inserted_already x q i)) g
      at h false o (inl e) = inr (omega (arith, ap count e, count_inserted x nodes q h (omega arith) o))
      at h false o (inr l) = inr (omega (arith, count_inserted x nodes q h (omega arith) o))

  pass_grows : (s : ℕ) → SameOrMore s (pass lowers uppers links nodes s)
  unfolding pass across
  pass_grows s =
      fold_keeps (SameOrMore s) (λ l. across nodes (lower l) (upper l)) s links (inl refl)
      (λ l _ x g. follow_grows (upper l) (lower l) s (follow nodes (lower l) (upper l) x) (follow_grows (lower l) (upper l) s x g))

  after : ℕ → ℕ
  after k = fold_below (λ _. pass lowers uppers links nodes) (inserted 0 0) k

  -- k passes have settled, or have marked more than k nodes
  settles : 0 < nodes → (k : ℕ) → (pass lowers uppers links nodes (after k) ≡ after k) ⊎ (k < count (after k))
  unfolding after fold_below
  settles some zero = inr (omega (arith, count_inserted 0 nodes 0 some (omega arith) (empty_has_none 0)))
  settles some (suc k) = at (settles some k) (pass_grows (after k))
    where
      at : (pass lowers uppers links nodes (after k) ≡ after k) ⊎ (k < count (after k)) → SameOrMore (after k) (pass lowers uppers links nodes (after k)) → (pass lowers uppers links nodes (pass lowers uppers links nodes (after k)) ≡ pass lowers uppers links nodes (after k)) ⊎ (suc k < count (pass lowers uppers links nodes (after k)))
      at (inl e) _ = inl (ap (pass lowers uppers links nodes) e)
      at (inr l) (inl e) = inl (ap (pass lowers uppers links nodes) e)
      at (inr l) (inr m) = inr (omega arith)

  marks_closed : (p q : ℕ) → Linked lowers uppers links p q → q < nodes → member (joined_marks lowers uppers links nodes) p ≡ true → member (joined_marks lowers uppers links nodes) q ≡ true
  unfolding joined_marks after
  marks_closed p q l h i = at (settles (omega arith) nodes)
    where
      at : (pass lowers uppers links nodes (after nodes) ≡ after nodes) ⊎ (nodes < count (after nodes)) → member (after nodes) q ≡ true
      at (inl e) = subst (λ x. member x q ≡ true) e (pass_adds p q (after nodes) l i h)
      at (inr m) = absurd (omega (arith, count_at_most (member (after nodes)) nodes))

  -- what every insert keeps is kept by the passes
  marks_hold : (P : ℕ → Type 0) → ((x q : ℕ) → P x → P (inserted x q)) → P (inserted 0 0) → P (joined_marks lowers uppers links nodes)
  unfolding joined_marks pass across
  marks_hold P keeps first =
      fold_keeps P (λ _. pass lowers uppers links nodes) (inserted 0 0) nodes first
      (λ _ _ s a. fold_keeps P (λ l. across nodes (lower l) (upper l)) s links a (λ l _ x b. on (upper l) (lower l) (follow nodes (lower l) (upper l) x) (on (lower l) (upper l) x b)))
    where
      on : (p q s : ℕ) → P s → P (follow nodes p q s)
      on p q s a = follow_elim P nodes p q s a (λ _ _. keeps s q a)

  joined_marked : {q : ℕ} → Joined lowers uppers links nodes q → member (joined_marks lowers uppers links nodes) q ≡ true
  joined_marked (start e) =
      subst (λ x. member (joined_marks lowers uppers links nodes) x ≡ true) e (marks_hold (λ x. member x 0 ≡ true) (λ x q. inserted_keeps x q 0) (inserted_is_in 0 0 (omega arith)))
  joined_marked (along {p} {q} j l h) = marks_closed p q l h (joined_marked j)

  -- the marks are the nodes with a path from node 0
  pub joined_exactly : (q : ℕ) → (member (joined_marks lowers uppers links nodes) q ≡ true) ↔ Joined lowers uppers links nodes q
  joined_exactly q = (marked_joined q, joined_marked)

  -- and no other set has exactly these
  pub marks_unique : (s : ℕ) → s < 2 ^ 64 → ((q : ℕ) → (member s q ≡ true) ↔ Joined lowers uppers links nodes q) → s ≡ joined_marks lowers uppers links nodes
  marks_unique s f same =
      same_members s (joined_marks lowers uppers links nodes) f (marks_hold (λ x. x < 2 ^ 64) inserted_fits (inserted_fits 0 0 (omega arith)))
      (λ q _. same_test (member s q) (member (joined_marks lowers uppers links nodes) q) (λ i. (joined_exactly q).1 ((same q).0 i)) (λ i. (same q).1 ((joined_exactly q).0 i)))

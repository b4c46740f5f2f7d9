-- The flags in one pass. After l links the table has, for each cluster, exactly those that one of these links joins to it; so the next link is the
-- first between its two clusters exactly if these have not met.
-- Assumes nothing.
use Prim.Native.Nat.{ℕ, ◌+◌, ◌<◌}
use native.Mathlib.Nat.{not-suc-le-zero}
use native.Mathlib.Omega.{arith}
use native.Mathlib.Decide.{dec_lt, ℕ_discrete}
use mathlib.Core.Path.{◌≡◌, refl, sym, ◌∙◌, ap, subst}
use mathlib.Core.Logic.{◌⊎◌, inl, inr, ⊎_elim}
use mathlib.Core.Bool.{Bool, true, false}
use mathlib.Core.List.{List}
use lib.ListN.{length, get_or, set, replicate, length-replicate, get_or-eq_default}
use Rattle.laws.specs.Choice.{if_b, if_lt}
use Rattle.laws.specs.Below.{first_of}
use Rattle.laws.proofs.Choice.{if_b_yes, if_b_no, if_lt_yes, if_lt_no, if_eq_yes, if_eq_no, eq_elim, b_elim, not_true_false, true_not_false}
use Rattle.laws.proofs.Below.{first_none, first_below}
use Rattle.laws.proofs.Entries.{repeated_at}
use Rattle.nodeset.specs.Marks.{member, inserted}
use Rattle.nodeset.proofs.Marks.{empty_has_none, inserted_is_in}
use Rattle.network.specs.Sets.{added, towards}
use Rattle.network.proofs.Tables.{length_added, added_at}
use Rattle.links.specs.Links.{joins, SamePair, straight, crossed}
use Rattle.links.proofs.Links.{joins_pair, pair_joins}
use Rattle.joined.proofs.Folds.{inserted_keeps, in_inserted}
use Rattle.layout.specs.FirstLinks.{first_flag}
use Rattle.layout.specs.Layout.{flag_by, met_with}
use Rattle.layout.proofs.Preferred.{pair_apart}

-- ---- what one call answers and leaves

pub flag_inside : (met : List ℕ) (x y : ℕ) → x ≡ y → (0 ≡ flag_by met x y) × (met ≡ met_with met x y)
unfolding flag_by met_with
flag_inside met x y e = (sym (if_eq_yes x y _ _ e), sym (if_eq_yes x y _ _ e))

pub flag_met : (met : List ℕ) (x y : ℕ) → (x ≡ y → ⊥) → member (get_or met x 0) y ≡ true → (0 ≡ flag_by met x y) × (met ≡ met_with met x y)
unfolding flag_by met_with
flag_met met x y d e =
    (sym (if_eq_no x y _ _ d ∙ if_b_yes (member (get_or met x 0) y) _ _ e), sym (if_eq_no x y _ _ d ∙ if_b_yes (member (get_or met x 0) y) _ _ e))

pub flag_new : (met : List ℕ) (x y m k : ℕ) → x < 64 → y < 64 → (x ≡ y → ⊥) → member (get_or met x 0) y ≡ false → m ≡ inserted (get_or met x 0) y → k ≡ inserted (get_or (set met x m) y 0) x → (1 ≡ flag_by met x y) × (set (set met x m) y k ≡ met_with met x y)
unfolding flag_by met_with added
flag_new met x y m k h l d e f g =
    (sym (if_eq_no x y _ _ d ∙ if_b_no (member (get_or met x 0) y) _ _ e), sym (if_eq_no x y _ _ d ∙ if_b_no (member (get_or met x 0) y) _ _ e ∙ if_lt_yes y 64 _ _ l ∙ there))
  where
    here : added met x y ≡ set met x m
    here = if_lt_yes x 64 (set met x (inserted (get_or met x 0) y)) met h ∙ ap (set met x) (sym f)

    there : set (added met x y) y (inserted (get_or (added met x y) y 0) x) ≡ set (set met x m) y k
    there = ap (λ xs. set xs y (inserted (get_or xs y 0) x)) here ∙ ap (set (set met x m) y) (sym g)

-- ---- one more member of a table

module _ (sets : List ℕ) (p q u v : ℕ) (full : length sets ≡ 64) (h : u < 64) where
  added_keeps : member (get_or sets u 0) v ≡ true → member (get_or (added sets p q) u 0) v ≡ true
  unfolding towards
  added_keeps i =
      subst (λ s. member s v ≡ true) (sym (added_at sets p q u full h))
      (eq_elim (λ s. member s v ≡ true) p u (inserted (get_or sets u 0) q) (get_or sets u 0) (λ _. inserted_keeps (get_or sets u 0) q v i) (λ _. i))

  added_from : member (get_or (added sets p q) u 0) v ≡ true → ((u ≡ p) × (v ≡ q)) ⊎ (member (get_or sets u 0) v ≡ true)
  unfolding towards
  added_from i =
      eq_elim (λ s. member s v ≡ true → ((u ≡ p) × (v ≡ q)) ⊎ (member (get_or sets u 0) v ≡ true)) p u (inserted (get_or sets u 0) q) (get_or sets u 0)
      (λ e j. ⊎_elim (λ f. inl (sym e, f)) (λ f. inr f) (in_inserted (get_or sets u 0) q v j)) (λ _ j. inr j)
      (subst (λ s. member s v ≡ true) (added_at sets p q u full h) i)

added_in : (sets : List ℕ) (p q : ℕ) → length sets ≡ 64 → p < 64 → q < 64 → member (get_or (added sets p q) p 0) q ≡ true
unfolding towards
added_in sets p q full h l =
    subst (λ s. member s q ≡ true) (sym (added_at sets p q p full h ∙ if_eq_yes p p _ _ refl)) (inserted_is_in (get_or sets p 0) q l)

-- past the table nobody has met
in_range_lem : (sets : List ℕ) (u v : ℕ) → length sets ≡ 64 → member (get_or sets u 0) v ≡ true → u < 64
in_range_lem sets u v full i = at (dec_lt u 64)
  where
    at : Dec (u < 64) → u < 64
    at (yes h) = h
    at (no h) =
        absurd (true_not_false (member (get_or sets u 0) v) i (ap (λ m. member m v) (get_or-eq_default sets 0 (omega arith)) ∙ empty_has_none v))

-- ---- the table after l links

-- lower and upper give the clusters at the two ends of a link
pub record Met (lower upper : ℕ → ℕ) (l : ℕ) (met : List ℕ) : Type 0 where
  pub full : length met ≡ 64
  -- clusters that have met are joined by one of the links
  pub joined : (x y : ℕ) → x < 64 → member (get_or met x 0) y ≡ true → (k : ℕ) × (k < l) × SamePair (lower k) (upper k) x y
  -- and at each link between two clusters each has met the other
  pub both_ways_lem : (k : ℕ) → k < l → (lower k ≡ upper k → ⊥) → (member (get_or met (lower k) 0) (upper k) ≡ true) × (member (get_or met (upper k) 0) (lower k) ≡ true)

module _ (lower upper : ℕ → ℕ) where
  pub met_start : Met lower upper 0 (replicate 64 0)
  met_start =
      record {
        full = length-replicate {A = ℕ} 64 0;
        joined = λ x y h i. absurd (true_not_false (member (get_or (replicate {A = ℕ} 64 0) x 0) y) i (ap (λ m. member m y) (repeated_at {A = ℕ} 64 0 x) ∙ empty_has_none y));
        both_ways_lem = λ k h. absurd (not-suc-le-zero h);
      }

  -- two clusters that a link joins have met, each the other
  met_pair : {l : ℕ} {met : List ℕ} → Met lower upper l met → (k x y : ℕ) → k < l → (x ≡ y → ⊥) → SamePair (lower k) (upper k) x y → (member (get_or met x 0) y ≡ true) × (member (get_or met y 0) x ≡ true)
  met_pair {l} {met} m k x y h d p = at p
    where
      two : (member (get_or met (lower k) 0) (upper k) ≡ true) × (member (get_or met (upper k) 0) (lower k) ≡ true)
      two = m.both_ways_lem k h (pair_apart p d)

      at : SamePair (lower k) (upper k) x y → (member (get_or met x 0) y ≡ true) × (member (get_or met y 0) x ≡ true)
      at (straight e f) =
          subst (λ a. (member (get_or met a 0) y ≡ true) × (member (get_or met y 0) a ≡ true)) e (subst (λ b. (member (get_or met (lower k) 0) b ≡ true) × (member (get_or met b 0) (lower k) ≡ true)) f two)
      at (crossed e f) =
          subst (λ a. (member (get_or met x 0) a ≡ true) × (member (get_or met a 0) x ≡ true)) e (subst (λ b. (member (get_or met b 0) (lower k) ≡ true) × (member (get_or met (lower k) 0) b ≡ true)) f (two.1, two.0))

  module _ {l : ℕ} {met : List ℕ} (m : Met lower upper l met) (h : lower l < 64) where
    abbrev like : ℕ → Bool
    like k = joins (lower k) (upper k) (lower l) (upper l)

    -- the flag that the table gives is that of the first link between the two clusters
    pub flag_is : flag_by met (lower l) (upper l) ≡ first_flag lower upper l
    unfolding flag_by first_flag
    flag_is = at (ℕ_discrete (lower l) (upper l))
      where
        met_before : member (get_or met (lower l) 0) (upper l) ≡ true → first_of like l < l
        met_before i =
            let (k, b, p) = m.joined (lower l) (upper l) h i in
            let later : k < first_of like l → ⊥ = λ c. true_not_false (like k) (pair_joins (lower k) (upper k) (lower l) (upper l) p) (first_below like l k c) in
            omega arith

        none_before : (lower l ≡ upper l → ⊥) → member (get_or met (lower l) 0) (upper l) ≡ false → first_of like l ≡ l
        none_before d o =
            first_none like l (λ k b. not_true_false (like k) (λ e. true_not_false (member (get_or met (lower l) 0) (upper l)) (met_pair m k (lower l) (upper l) b d (joins_pair (lower k) (upper k) (lower l) (upper l) e)).0 o))

        at : Dec (lower l ≡ upper l) → flag_by met (lower l) (upper l) ≡ first_flag lower upper l
        at (yes e) = if_eq_yes (lower l) (upper l) _ _ e ∙ sym (if_eq_yes (lower l) (upper l) _ _ e)
        at (no d) =
            if_eq_no (lower l) (upper l) _ _ d
            ∙ b_elim (λ z. z ≡ if_lt (first_of like l) l 0 1) (member (get_or met (lower l) 0) (upper l)) 0 1 (λ i. sym (if_lt_yes (first_of like l) l 0 1 (met_before i))) (λ o. sym (if_lt_no (first_of like l) l 0 1 (omega (arith, none_before d o))))
            ∙ sym (if_eq_no (lower l) (upper l) _ _ d)

    -- with link l the table is that after l + 1 links
    pub met_more : upper l < 64 → Met lower upper (l + 1) (met_with met (lower l) (upper l))
    unfolding met_with
    met_more b =
        eq_elim (Met lower upper (l + 1)) (lower l) (upper l) met (if_b (member (get_or met (lower l) 0) (upper l)) met more) (λ e. same (λ d. absurd (d e)))
        (λ d. b_elim (Met lower upper (l + 1)) (member (get_or met (lower l) 0) (upper l)) met more (λ i. same (λ _. already d i)) (λ _. new d))
      where
        more : List ℕ
        more = added (added met (lower l) (upper l)) (upper l) (lower l)

        wide : {x y : ℕ} → ((k : ℕ) × (k < l) × SamePair (lower k) (upper k) x y) → (k : ℕ) × (k < l + 1) × SamePair (lower k) (upper k) x y
        wide (k, c, p) = (k, omega arith, p)

        already : (lower l ≡ upper l → ⊥) → member (get_or met (lower l) 0) (upper l) ≡ true → (member (get_or met (lower l) 0) (upper l) ≡ true) × (member (get_or met (upper l) 0) (lower l) ≡ true)
        already d i =
            let (k, c, p) = m.joined (lower l) (upper l) h i in
            met_pair m k (lower l) (upper l) c d p

        -- the table stays, where l's two clusters have met
        same : ((lower l ≡ upper l → ⊥) → (member (get_or met (lower l) 0) (upper l) ≡ true) × (member (get_or met (upper l) 0) (lower l) ≡ true)) → Met lower upper (l + 1) met
        same last =
            record { full = m.full; joined = λ x y i j. wide (m.joined x y i j); both_ways_lem = λ k c d. at k c d (dec_lt k l) }
          where
            at : (k : ℕ) → k < l + 1 → (lower k ≡ upper k → ⊥) → Dec (k < l) → (member (get_or met (lower k) 0) (upper k) ≡ true) × (member (get_or met (upper k) 0) (lower k) ≡ true)
            at k c d (yes i) = m.both_ways_lem k i d
            at k c d (no i) =
                let e : l ≡ k = omega arith in
                subst (λ j. (member (get_or met (lower j) 0) (upper j) ≡ true) × (member (get_or met (upper j) 0) (lower j) ≡ true)) e (last (λ f. d (subst (λ j. lower j ≡ upper j) e f)))

        new : (lower l ≡ upper l → ⊥) → Met lower upper (l + 1) more
        new d = record { full = full₂; joined = from; both_ways_lem = λ k c d. at k c d (dec_lt k l) }
          where
            once : List ℕ
            once = added met (lower l) (upper l)

            full₁ : length once ≡ 64
            full₁ = length_added met (lower l) (upper l) ∙ m.full

            full₂ : length more ≡ 64
            full₂ = length_added once (upper l) (lower l) ∙ full₁

            from : (x y : ℕ) → x < 64 → member (get_or more x 0) y ≡ true → (k : ℕ) × (k < l + 1) × SamePair (lower k) (upper k) x y
            from x y i j =
                ⊎_elim (λ e. (l, omega arith, crossed (sym e.1) (sym e.0)))
                (λ o. ⊎_elim (λ e. (l, omega arith, straight (sym e.0) (sym e.1))) (λ n. wide (m.joined x y i n)) (added_from met (lower l) (upper l) x y m.full i o))
                (added_from once (upper l) (lower l) x y full₁ i j)

            keeps : (x y : ℕ) → member (get_or met x 0) y ≡ true → member (get_or more x 0) y ≡ true
            keeps x y i =
                let below = in_range_lem met x y m.full i in
                added_keeps once (upper l) (lower l) x y full₁ below (added_keeps met (lower l) (upper l) x y m.full below i)

            at : (k : ℕ) → k < l + 1 → (lower k ≡ upper k → ⊥) → Dec (k < l) → (member (get_or more (lower k) 0) (upper k) ≡ true) × (member (get_or more (upper k) 0) (lower k) ≡ true)
            at k c d (yes i) = let (x, y) = m.both_ways_lem k i d in (keeps (lower k) (upper k) x, keeps (upper k) (lower k) y)
            at k c d (no i) =
                let e : l ≡ k = omega arith in
                subst (λ j. (member (get_or more (lower j) 0) (upper j) ≡ true) × (member (get_or more (upper j) 0) (lower j) ≡ true)) e
                (added_keeps once (upper l) (lower l) (lower l) (upper l) full₁ h (added_in met (lower l) (upper l) m.full h b), added_in once (upper l) (lower l) full₁ b h)

-- What std's chains over the range 0..m come to, in the words of `specs/Below`: `find`, `any`, `filter` with `count`, and `fold`. Each law takes
-- what the range ends at, the clause `ran` of the call that runs the chain, and that the closure answers as the test or the change does.
-- Assumes nothing.
use Prim.Native.Nat.{ℕ, zero, suc, ◌+◌, ◌<◌, ◌≤◌}
use native.Mathlib.Omega.{arith}
use native.Mathlib.Decide.{dec_lt, ℕ_discrete}
use mathlib.Core.Path.{◌≡◌, refl, sym, ◌∙◌, ap, ap₂, subst}
use mathlib.Core.Bool.{Bool, true, false, cond}
use mathlib.Core.List.{List, [], ◌∷◌, ◌++◌, map-id}
use lib.ListN.{length, get_or, length-append}
use lib.Dec.{ltb}
use borrow.Author.Tests.{lt-ltb, le-ltb}
use denote.Param.Members.{Mut}
use denote.Ref.{Bor}
use Rattle.std.specs.Prelude.{Option, Some, None, MatchOption, fold, filter, ⊤, MatchBool}
use Rattle.std.specs.Array.{IsFromFnResultFrom, IsFromFnResult}
use Rattle.std.specs.Fn.{Called, CalledAt}
use Rattle.std.specs.Iterator.{YieldsThen, Drains}
use Rattle.std.specs.Iterator.Adapters.{filter_source, filter_callee, filter_steps}
use Rattle.std.specs.List.{FoldsTo, HoldsAt, AllWithin, range_with_len}
use Rattle.std.specs.declared.iter.Filter.{Filter}
use Rattle.std.specs.declared.ops.Range.{Range}
use Rattle.std.proofs.lemmas.List.Elements.{filter-append}
use Rattle.std.proofs.iter.Yields.{nat_range_steps}
use Rattle.std.proofs.lemmas.Iterator.{YieldsList-from_range, first_from_Range, cases_from_any}
use Rattle.std.proofs.lemmas.Iterator.Consumers.{fold_from_yields_List, count_from_yields_List, YieldsList-from_filter}
use Rattle.std.proofs.lemmas.List.FromFn.{length-range_with_len, get_or-range_with_len, map-range_with_len_more}
use Rattle.std.proofs.lemmas.List.Sums.{fold-append}
use Rattle.laws.specs.Choice.{if_b}
use Rattle.laws.specs.Below.{sum_below, count_below, fold_below, first_of, list_below}
use Rattle.laws.proofs.Choice.{if_b_yes, if_b_no, true_not_false}
use Rattle.laws.proofs.Below.{first_le, first_none, first_found, first_below, list_is}

-- the numbers below n
abbrev pub numbers : ℕ → Range ℕ
numbers n = record { start = 0; end = n }

-- `find`: the lowest number that passes, if one below n does
pub found_by_find : {F : Type 0} {g : Mut F (Bor ℕ × Unit {0}) Bool} {t : ℕ → Bool} {n m : ℕ} {f : F} (u : Range ℕ) (r : Option ℕ) → m ≡ n
    → (xs : List ℕ) × (j : F) × YieldsThen nat_range_steps (numbers m) xs r u × FoldsTo (λ p x q. CalledAt g p x false q) f xs j × MatchOption r ⊤ (λ x. (h : F) × CalledAt g j x true h)
    → ((x : ℕ) (b : Bool) (q : F) → CalledAt g f x b q → (q ≡ f) × (b ≡ t x)) → r ≡ cond (ltb (first_of t n) n) (Some (first_of t n)) None
found_by_find {t = t} {n = n} {m = m} {f = f} u r e ran calls =
    at r (first_from_Range (numbers m) u f r (λ x. t x ≡ true) (λ x. t x ≡ false) ran (λ x q k. sym (calls x true q k).1) (λ x q k. ((calls x false q k).0, sym (calls x false q k).1)))
  where
    at : (o : Option ℕ) → MatchOption o ((k : ℕ) → 0 ≤ k → k < m → t k ≡ false) (λ i. (0 ≤ i) × (i < m) × (t i ≡ true) × ((k : ℕ) → 0 ≤ k → k < i → t k ≡ false)) → o ≡ cond (ltb (first_of t n) n) (Some (first_of t n)) None
    at None none =
        let past : ltb (first_of t n) n ≡ false = le-ltb (first_of t n) n (omega (arith, first_none t n (λ k h. none k (omega arith) (omega arith)))) in
        rw past refl
    at (Some i) hit =
        let first : i ≡ first_of t n = first_found t n i (omega (arith, hit.1)) (first_none t i (λ k h. hit.3 k (omega arith) h)) hit.2 in
        let below : ltb (first_of t n) n ≡ true = lt-ltb (first_of t n) n (omega (arith, hit.1)) in
        rw below (ap Some first)

-- `any`: whether the lowest number that passes is below n
pub some_by_any : {F : Type 0} {g : Mut F (ℕ × Unit {0}) Bool} {t : ℕ → Bool} {n m : ℕ} {f : F} (u : Range ℕ) (r : Bool) → m ≡ n
    → (xs : List ℕ) × (o : Option ℕ) × (j : F) × YieldsThen nat_range_steps (numbers m) xs o u × FoldsTo (λ p x q. Called g p (x, tt) false q) f xs j × MatchOption o (r ≡ false) (λ x. (r ≡ true) × ((h : F) × Called g j (x, tt) true h))
    → ((x : ℕ) (b : Bool) (q : F) → Called g f (x, tt) b q → (q ≡ f) × (b ≡ t x)) → r ≡ ltb (first_of t n) n
some_by_any {t = t} {n = n} {m = m} {f = f} u r e ran calls =
    at r (cases_from_any u f r (λ x. t x ≡ true) (λ x. t x ≡ false) ran (YieldsList-from_range 0 m n refl (omega arith)) (λ x q k. sym (calls x true q k).1) (λ x q k. ((calls x false q k).0, sym (calls x false q k).1)))
  where
    number : (k : ℕ) → k < n → get_or (range_with_len 0 n) k 0 ≡ k
    number k h = omega (arith, get_or-range_with_len 0 n k 0 h)

    at : (b : Bool) → MatchBool b ((k : ℕ) × (k < length (range_with_len 0 n)) × HoldsAt (λ x. t x ≡ true) (range_with_len 0 n) k) (AllWithin (λ x. t x ≡ false) (range_with_len 0 n) 0 (length (range_with_len 0 n))) → b ≡ ltb (first_of t n) n
    at true hit = sym (lt-ltb (first_of t n) n (some (dec_lt (first_of t n) n)))
      where
        below : hit.0 < n
        below = omega (arith, hit.1, length-range_with_len 0 n)

        some : Dec (first_of t n < n) → first_of t n < n
        some (yes h) = h
        some (no h) =
            absurd (true_not_false (t hit.0) (sym (ap t (number hit.0 below)) ∙ hit.2 0) (first_below t n hit.0 (omega (arith, below, first_le t n))))
    at false none =
        sym (le-ltb (first_of t n) n (omega (arith, first_none t n (λ k h. sym (ap t (number k h)) ∙ none k 0 (omega arith) (omega (arith, h, length-range_with_len 0 n))))))

-- ---- all of the range, one number more at a time

one_more_number : (n : ℕ) → range_with_len 0 (suc n) ≡ range_with_len 0 n ++ n ∷ []
one_more_number n =
    let e : suc n ≡ n + 1 = omega arith in
    ap (range_with_len 0) e
    ∙ sym (map-id (range_with_len 0 (n + 1)))
    ∙ map-range_with_len_more (λ x. x) 0 n n (omega arith)
    ∙ ap (λ l. l ++ n ∷ []) (map-id (range_with_len 0 n))

count_numbers : (t : ℕ → Bool) (n : ℕ) → length (filter t (range_with_len 0 n)) ≡ count_below t n
unfolding count_below sum_below
count_numbers t zero = refl
count_numbers t (suc n) =
    ap (λ l. length (filter t l)) (one_more_number n)
    ∙ ap length (filter-append t (range_with_len 0 n) (n ∷ []))
    ∙ length-append (filter t (range_with_len 0 n)) (filter t (n ∷ []))
    ∙ ap₂ ◌+◌ (count_numbers t n) (last (t n) refl)
  where
    last : (b : Bool) → t n ≡ b → length (filter t (n ∷ [])) ≡ if_b (t n) 1 0
    last true e = rw e (sym (if_b_yes true 1 0 refl))
    last false e = rw e (sym (if_b_no false 1 0 refl))

fold_numbers : {A : Type 0} (f : ℕ → A → A) (z : A) (n : ℕ) → fold (λ a k. f k a) z (range_with_len 0 n) ≡ fold_below f z n
unfolding fold_below
fold_numbers f z zero = refl
fold_numbers f z (suc n) =
    ap (fold (λ a k. f k a) z) (one_more_number n)
    ∙ fold-append (λ a k. f k a) z (range_with_len 0 n) (n ∷ [])
    ∙ ap (f n) (fold_numbers f z n)

-- `filter` and `count`: how many pass
pub count_by_filter : {F : Type 0} {g : Mut F (Bor ℕ × Unit {0}) Bool} {t : ℕ → Bool} {n m : ℕ} {s : Filter (Range ℕ) F} {f : F} {r : ℕ} → m ≡ n
    → (xs : List ℕ) × Drains (filter_steps nat_range_steps g) s xs × (r ≡ length xs)
    → filter_source s ≡ numbers m → filter_callee s ≡ f → ((x : ℕ) (b : Bool) (q : F) → CalledAt g f x b q → (q ≡ f) × (b ≡ t x)) → r ≡ count_below t n
count_by_filter {g = g} {t = t} {n = n} {m = m} {s = s} {r = r} e ran source callee calls =
    count_from_yields_List s r ran (YieldsList-from_filter g t (YieldsList-from_range 0 m n source (omega arith)) callee calls) ∙ count_numbers t n

-- `fold`: one change after the other
pub fold_by_fold : {A F : Type 0} {g : Mut F (A × (ℕ × Unit {0})) A} {h : ℕ → A → A} {n m : ℕ} {f : F} {z r : A} → m ≡ n
    → (xs : List ℕ) × (q : F) × Drains nat_range_steps (numbers m) xs × FoldsTo {P = F × A} (λ a x b. Called g a.0 (a.1, (x, tt)) b.1 b.0) (f, z) xs (q, r)
    → ((a : A) (x : ℕ) (b : A) (q : F) → Called g f (a, (x, tt)) b q → (q ≡ f) × (b ≡ h x a)) → r ≡ fold_below h z n
fold_by_fold {g = g} {h = h} {n = n} {m = m} {z = z} {r = r} e ran calls =
    fold_from_yields_List g (λ a k. h k a) z r ran (YieldsList-from_range 0 m n refl (omega arith)) calls ∙ fold_numbers h z n

-- ---- an array made by `from_fn` is the list of what the closure gives at each place

module _ {A F : Type 0} {g : Mut F (ℕ × Unit {0}) A} {h : ℕ → A} {f : F} (calls : (x : ℕ) (b : A) (q : F) → Called g f (x, tt) b q → (q ≡ f) × (b ≡ h x)) where
  made_at : (xs : List A) (n i : ℕ) → IsFromFnResultFrom g f xs i n → (k : ℕ) (d : A) → i ≤ k → k < i + n → get_or xs k d ≡ h k
  made_at xs zero i made k d l r = absurd (omega arith)
  made_at xs (suc n) i (q, y, here, call, rest) k d l r = at (ℕ_discrete i k) (made_at xs n (i + 1) (subst (λ s. IsFromFnResultFrom g s xs (i + 1) n) (calls i y q call).0 rest) k d)
    where
      at : Dec (i ≡ k) → (i + 1 ≤ k → k < i + 1 + n → get_or xs k d ≡ h k) → get_or xs k d ≡ h k
      at (yes e) _ = ap (λ j. get_or xs j d) (sym e) ∙ here.1 d ∙ (calls i y q call).1 ∙ ap h e
      at (no a) later = later (omega arith) (omega arith)

  pub list_by_from_fn : {n : ℕ} {xs : List A} (d : A) → IsFromFnResult g f xs n → xs ≡ list_below h n
  list_by_from_fn {n} {xs} d made = list_is h n xs d made.long (λ k l. made_at xs n 0 made.each k d (omega arith) (omega arith))

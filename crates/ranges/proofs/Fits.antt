-- A row of limits: what each place of an array may hold at most, so much where it is in use and 0 where not. Held against the row of its kind,
-- the counts pass exactly where `counts_fit` says. And the lengths and the places of the queues, and the entries past those in use.
-- Assumes nothing.
use Prim.Native.Nat.{ℕ, ◌+◌, ◌-◌, ◌*◌, ◌/◌, ◌%◌, ◌<◌, ◌≤◌, min}
use native.Mathlib.Omega.{arith}
use native.Mathlib.Decide.{dec_lt}
use mathlib.Core.Path.{◌≡◌, refl, sym, ◌∙◌, ap, ap₂, subst}
use mathlib.Core.Bool.{Bool, true, false}
use mathlib.Core.List.{List, [], ◌++◌}
use lib.Dec.{leb, ltb, eqb}
use mir.Val.{bool_byte}
use lib.ListN.{length, get_or, take, drop, replicate, length-append, length-replicate, length-drop, get_or-append, get_or-replicate}
use lib.Seq.{get_or-drop, take-length}
use Rattle.std.proofs.lemmas.List.{get_or-append-add}
use borrow.Author.Tests.{leb-true, le-leb, eqb-true, eq-eqb, ne_eqb}
use Rattle.std.specs.List.{fold, list_all, zip}
use Rattle.std.specs.Simd.{first_chunks}
use lib.Bits.{bit_or}
use Rattle.ranges.proofs.Gathered.{gathered, gathered_whole, gathered_pairs, all_joined, listed_pairs, length-chunks, chunk_at}
use Rattle.laws.specs.Choice.{if_b, if_lt, if_eq, both}
use Rattle.laws.specs.Below.{all_below, list_below}
use Rattle.laws.proofs.Choice.{if_lt_yes, if_lt_no, if_eq_yes, if_eq_no, eq_elim, lt_elim, both_yes, both_left, both_right, same_test}
use Rattle.laws.proofs.Below.{all_at, all_of, all_same, length_list, list_at, list_is}
use Rattle.laws.proofs.Faults.{faults_or}
use Rattle.actions.specs.Kinds.{index_of, cell_of}
use Rattle.actions.specs.Records.{body_table}
use Rattle.actions.proofs.Numbers.{number_at, body_at}
use Rattle.queue.specs.Queue.{packet, ack}
use Rattle.ranges.specs.Fits.{used_by, entry_fits, row_fits, row_within, counts_fit, lengths_fit, sort_fits, sort_fault, sorts_fit, load_fits, load_fault, loads_fit, past_fits, rest_fits}

-- the limits of 256 places, of which so many are in use
abbrev pub limits_of : ℕ → ℕ → List ℕ
limits_of used most = list_below (λ x. if_lt x used most 0) 256

-- only the places in use are written over a row of zeros
pub limits_written : (used most n : ℕ) (xs : List ℕ) → n ≡ min used 256 → xs ≡ replicate n most → xs ++ drop n (replicate 256 0) ≡ limits_of used most
limits_written used most n xs e p =
    rw p (list_is f 256 (replicate n most ++ drop n (replicate 256 0)) 0 (omega (arith, length-append (replicate n most) (drop n (replicate 256 0)), length-replicate {A = ℕ} n most, length-drop {A = ℕ} n (replicate 256 0), length-replicate {A = ℕ} 256 0)) (λ k h. at k h (dec_lt k n)))
  where
    f : ℕ → ℕ
    f x = if_lt x used most 0

    at : (k : ℕ) → k < 256 → Dec (k < n) → get_or (replicate n most ++ drop n (replicate 256 0)) k 0 ≡ f k
    at k h (yes l) = get_or-append (replicate n most) (drop n (replicate 256 0)) 0 k (omega (arith, length-replicate {A = ℕ} n most)) ∙ get_or-replicate n k most 0 l ∙ sym (if_lt_yes k used most 0 (omega arith))
    at k h (no l) =
        let same : length (replicate n most) + (k - n) ≡ k = omega (arith, length-replicate {A = ℕ} n most) in
        let back : n + (k - n) ≡ k = omega arith in
        ap (λ j. get_or (replicate n most ++ drop n (replicate 256 0)) j 0) (sym same)
        ∙ get_or-append-add (replicate n most) (drop n (replicate 256 0)) (k - n) 0
        ∙ get_or-drop n (replicate 256 0) (k - n) 0
        ∙ ap (λ j. get_or (replicate 256 0) j 0) back
        ∙ get_or-replicate 256 k 0 0 h
        ∙ sym (if_lt_no k used most 0 (omega arith))

limit_at : (used most x : ℕ) → x < 256 → get_or (limits_of used most) x 0 ≡ if_lt x used most 0
limit_at used most x h = list_at (λ y. if_lt y used most 0) 256 x 0 h

module _ (nodes links rounds : ℕ) where
  -- the row of a kind's limits is that of the nodes or that of the directions
  limit_of : (n x : ℕ) → x < 256 → get_or (if_eq n 1 (limits_of nodes rounds) (limits_of (links * 2) rounds)) x 0 ≡ if_lt x (if_eq n 1 nodes (links * 2)) rounds 0
  limit_of n x h =
      eq_elim (λ l. get_or l x 0 ≡ if_lt x (if_eq n 1 nodes (links * 2)) rounds 0) n 1 (limits_of nodes rounds) (limits_of (links * 2) rounds)
      (λ e. limit_at nodes rounds x h ∙ ap (λ u. if_lt x u rounds 0) (sym (if_eq_yes n 1 nodes (links * 2) e)))
      (λ e. limit_at (links * 2) rounds x h ∙ ap (λ u. if_lt x u rounds 0) (sym (if_eq_no n 1 nodes (links * 2) e)))

  pub rows_are_counts : (counts : List ℕ) → length counts ≡ 5120 → list_all (λ p. row_within p.0 (if_eq p.1 1 (limits_of nodes rounds) (limits_of (links * 2) rounds))) (zip (first_chunks 256 20 counts) body_table) ≡ counts_fit nodes links rounds counts
  unfolding counts_fit row_fits row_within entry_fits used_by cell_of index_of body_table list_below
  rows_are_counts counts e =
      listed_pairs (λ p. row_within p.0 (if_eq p.1 1 (limits_of nodes rounds) (limits_of (links * 2) rounds))) (first_chunks 256 20 counts) body_table [] 0 20 (length-chunks 256 20 counts) refl
      ∙ all_same _ _ 20 (λ i h. all_same _ _ 256 (λ x l. ap₂ (λ (c m : ℕ). leb c m) (chunk_at 256 20 counts i x h l ∙ ap (λ k. get_or counts k 0) (omega (arith, number_at i h))) (limit_of (get_or body_table i 0) x l ∙ ap (λ n. if_lt x (if_eq n 1 nodes (links * 2)) rounds 0) (body_at i h))))

-- a queue in use holds two at most, and one past those in use none
pub length_in : (used d len : ℕ) → d < used → leb len 2 ≡ entry_fits 2 used d len
unfolding entry_fits
length_in used d len h = ap (leb len) (sym (if_lt_yes d used 2 0 h))

pub length_past : (used d len : ℕ) → used ≤ d → eqb len 0 ≡ entry_fits 2 used d len
unfolding entry_fits
length_past used d len h =
    same_test _ _ (λ e. le-leb len _ (omega (arith, eqb-true len 0 e))) (λ e. eq-eqb len 0 (omega (arith, leb-true len (if_lt d used 2 0) e, if_lt_no {A = ℕ} d used 2 0 h)))

-- ---- the places of the queues, one after the other

-- 1 at each place that holds a message
abbrev pub places_of : List ℕ → List ℕ
places_of lens = list_below (λ e. if_lt (e % 2) (get_or lens (e / 2) 0) 1 0) 512

-- a test as a byte
pub held_is : (j len : ℕ) → bool_byte (ltb j len) ≡ if_lt j len 1 0
unfolding if_lt if_b
held_is j len = elim (ltb j len) as (λ b. bool_byte b ≡ if_b b 1 0) [ true ↦ refl | false ↦ refl ]

-- a place that holds a message is as the only one of a queue of one
held_fits : (len j sort : ℕ) → sort_fits (if_lt j len 1 0) 0 sort ≡ sort_fits len j sort
unfolding sort_fits
held_fits len j sort =
    lt_elim (λ h. if_lt 0 h (if_eq sort packet true (eqb sort ack)) (eqb sort 0) ≡ if_lt j len (if_eq sort packet true (eqb sort ack)) (eqb sort 0)) j len 1 0
    (λ l. if_lt_yes 0 1 _ _ (omega arith) ∙ sym (if_lt_yes j len _ _ l))
    (λ l. if_lt_no 0 0 _ _ (omega arith) ∙ sym (if_lt_no j len _ _ l))

place_fits : (lens : List ℕ) (e d j sort : ℕ) → e < 512 → e / 2 ≡ d → e % 2 ≡ j → sort_fits (get_or (places_of lens) e 0) 0 sort ≡ sort_fits (get_or lens d 0) j sort
place_fits lens e d j sort h p q =
    ap (λ n. sort_fits n 0 sort) (list_at (λ k. if_lt (k % 2) (get_or lens (k / 2) 0) 1 0) 512 e 0 h ∙ ap₂ (λ (x y : ℕ). if_lt y (get_or lens x 0) 1 0) p q)
    ∙ held_fits (get_or lens d 0) j sort

-- what holds of every number holds of both of each pair
all_pairs : (t : ℕ → Bool) (n : ℕ) → all_below t (n * 2) ≡ all_below (λ d. both (t (d * 2)) (t (d * 2 + 1))) n
all_pairs t n =
    same_test _ _ (λ a. all_of _ n (λ d h. both_yes _ _ (all_at t (n * 2) a (d * 2) (omega arith)) (all_at t (n * 2) a (d * 2 + 1) (omega arith))))
    (λ a. all_of t (n * 2) (λ e h. half e (all_at _ n a (e / 2) (omega arith)) (dec_lt (e % 2) 1)))
  where
    half : (e : ℕ) → both (t (e / 2 * 2)) (t (e / 2 * 2 + 1)) ≡ true → Dec (e % 2 < 1) → t e ≡ true
    half e c (yes l) = let same : e / 2 * 2 ≡ e = omega arith in subst (λ k. t k ≡ true) same (both_left _ _ c)
    half e c (no o) = let same : e / 2 * 2 + 1 ≡ e = omega arith in subst (λ k. t k ≡ true) same (both_right _ _ c)

pub sorts_by_place : (lens sorts : List ℕ) → all_below (λ e. sort_fits (get_or (places_of lens) e 0) 0 (get_or sorts e 0)) 512 ≡ sorts_fit lens sorts
unfolding sorts_fit
sorts_by_place lens sorts =
    all_pairs (λ e. sort_fits (get_or (places_of lens) e 0) 0 (get_or sorts e 0)) 256
    ∙ all_same _ _ 256 (λ d h. ap₂ both (place_fits lens (d * 2) d 0 _ (omega arith) (omega arith) (omega arith)) (place_fits lens (d * 2 + 1) d 1 _ (omega arith) (omega arith) (omega arith)))

-- ---- entries past those in use

-- before the first that is not in use nothing is asked, and after it every entry is
pub past_rest : (used : ℕ) (xs : List ℕ) → eqb (fold bit_or 0 (take (length xs - min used (length xs)) (drop (min used (length xs)) xs))) 0 ≡ rest_fits used xs (length xs)
unfolding rest_fits past_fits both if_b
past_rest used xs =
    ap (λ n. eqb (fold bit_or 0 (take n (drop u xs))) 0) (sym (length-drop u xs)) ∙ ap (λ l. eqb (fold bit_or 0 l) 0) (take-length (drop u xs))
    ∙ gathered_whole (λ x. x) (drop u xs) 0 m (length-drop u xs)
    ∙ all_same _ _ m (λ j h. ap (λ x. eqb x 0) (get_or-drop u xs j 0) ∙ sym (if_lt_no (u + j) used true (eqb (get_or xs (u + j) 0) 0) (omega (arith, length-drop u xs))))
    ∙ sym (ap (λ b. both b (all_below (λ j. t (u + j)) m)) (all_of t u (λ x h. if_lt_yes x used true (eqb (get_or xs x 0) 0) (omega arith))))
    ∙ all_joined t u m
    ∙ ap (all_below t) (omega arith)
  where
    u : ℕ
    u = min used (length xs)

    m : ℕ
    m = length xs - u

    t : ℕ → Bool
    t x = if_lt x used true (eqb (get_or xs x 0) 0)

-- ---- faults as numbers

-- what is left of n above the most is 0 exactly where n is not above it
excess_none : (n most : ℕ) → eqb (n - most) 0 ≡ leb n most
excess_none n most =
    same_test _ _ (λ e. le-leb n most (omega (arith, eqb-true (n - most) 0 e))) (λ e. eq-eqb (n - most) 0 (omega (arith, leb-true n most e)))

pub row_by_fold : (row limits : List ℕ) → length row ≡ 256 → length limits ≡ 256 → eqb (fold (λ f p. bit_or f (p.0 - p.1)) 0 (zip row limits)) 0 ≡ row_within row limits
unfolding row_within
row_by_fold row limits e d = gathered_pairs (λ p. p.0 - p.1) row limits 0 0 256 e d ∙ all_same _ _ 256 (λ k h. excess_none _ _)

pub lengths_by_fold : (links : ℕ) (lens : List ℕ) → length lens ≡ 256 → eqb (bit_or (fold (λ f len. bit_or f (len - 2)) 0 (take (min (links * 2) 256) lens)) (fold (λ f len. bit_or f (len - 0)) 0 (drop (min (links * 2) 256) lens))) 0 ≡ lengths_fit links lens
unfolding lengths_fit
lengths_by_fold links lens e =
    faults_or _ _ _ _
    (gathered (λ len. len - 2) lens 0 u (omega arith) ∙ all_same _ t u (λ d h. excess_none _ 2 ∙ length_in used d _ (omega arith)))
    (gathered_whole (λ len. len - 0) (drop u lens) 0 m (omega (arith, length-drop {A = ℕ} u lens)) ∙ all_same _ (λ j. t (u + j)) m (λ j h. let same : get_or (drop u lens) j 0 - 0 ≡ get_or lens (u + j) 0 = omega (arith, get_or-drop u lens j 0) in ap (λ x. eqb x 0) same ∙ length_past used (u + j) (get_or lens (u + j) 0) (omega arith)))
    ∙ all_joined t u m
    ∙ ap (all_below t) (omega arith)
  where
    used : ℕ
    used = links * 2

    u : ℕ
    u = min used 256

    m : ℕ
    m = 256 - u

    t : ℕ → Bool
    t d = entry_fits 2 used d (get_or lens d 0)

sort_none : (held sort : ℕ) → eqb (sort_fault held sort) 0 ≡ sort_fits held 0 sort
unfolding sort_fault sort_fits
sort_none held sort =
    eq_elim (λ z. eqb z 0 ≡ if_lt 0 held (if_eq sort packet true (eqb sort ack)) (eqb sort 0)) held 0 sort (if_eq sort packet 0 (if_eq sort ack 0 1))
    (λ none. sym (if_lt_no 0 held _ _ (omega arith)))
    (λ some. eq_elim (λ z. eqb z 0 ≡ if_eq sort packet true (eqb sort ack)) sort packet 0 (if_eq sort ack 0 1) (λ e. sym (if_eq_yes sort packet _ _ e))
    (λ o. eq_elim (λ z. eqb z 0 ≡ eqb sort ack) sort ack 0 1 (λ e. sym (eq-eqb sort ack e)) (λ n. sym (ne_eqb sort ack n)) ∙ sym (if_eq_no sort packet _ _ o))
    ∙ sym (if_lt_yes 0 held _ _ (omega arith)))

pub sorts_by_fold : (lens sorts : List ℕ) → length sorts ≡ 512 → eqb (fold (λ f p. bit_or f (sort_fault p.0 p.1)) 0 (zip (places_of lens) sorts)) 0 ≡ sorts_fit lens sorts
sorts_by_fold lens sorts e =
    gathered_pairs (λ p. sort_fault p.0 p.1) (places_of lens) sorts 0 0 512 (length_list _ 512) e ∙ all_same _ _ 512 (λ k h. sort_none _ _) ∙ sorts_by_place lens sorts

load_none : (sort load : ℕ) → eqb (load_fault sort load) 0 ≡ load_fits sort load
unfolding load_fault load_fits
load_none sort load =
    eq_elim (λ z. eqb z 0 ≡ if_eq sort packet true (eqb load 0)) sort packet 0 load (λ e. sym (if_eq_yes sort packet _ _ e)) (λ o. sym (if_eq_no sort packet _ _ o))

pub loads_by_fold : (sorts loads : List ℕ) → length sorts ≡ 512 → length loads ≡ 512 → eqb (fold (λ f p. bit_or f (load_fault p.0 p.1)) 0 (zip sorts loads)) 0 ≡ loads_fit sorts loads
unfolding loads_fit
loads_by_fold sorts loads e d = gathered_pairs (λ p. load_fault p.0 p.1) sorts loads 0 0 512 e d ∙ all_same _ _ 512 (λ k h. load_none _ _)

-- Links that rise, and one more at their end: it keeps the order exactly if it stands above the last of them.
-- Assumes nothing.
use Prim.Native.Nat.{ℕ, suc, ◌-◌, ◌<◌, ◌≤◌}
use native.Mathlib.Omega.{arith}
use native.Mathlib.Decide.{dec_lt}
use mathlib.Core.Path.{◌≡◌, refl, sym, ◌∙◌, ap, ap₂}
use mathlib.Core.Bool.{true}
use mathlib.Core.Logic.{inl, inr, ⊎_elim}
use mathlib.Core.List.{List, [], ◌∷◌, ◌++◌, map}
use lib.ListN.{length, get_or, length-map}
use Rattle.laws.proofs.Choice.{if_eq_yes, if_eq_no}
use Rattle.network.specs.Valid.{rises}
use Rattle.network.proofs.Valid.{rises_cases, rises_of}
use Rattle.records.specs.Rules.{follows_of}
use Rattle.records.specs.Plan.{Plan, PlanLink, padded, network_of, Above, RisingFrom, Rising}
use Rattle.records.proofs.Lists.{padded_at}

pub above_rises : (x y : PlanLink) → Above x y → rises x.a x.b y.a y.b ≡ true
above_rises x y h =
    ⊎_elim (λ l. rises_of x.a x.b y.a y.b (omega arith) (λ g. absurd (omega arith)))
    (λ w. rises_of x.a x.b y.a y.b (omega arith) (λ _. w.1))
    h

pub rises_above : (x y : PlanLink) → rises x.a x.b y.a y.b ≡ true → Above x y
rises_above x y e = at (dec_lt x.a y.a) (rises_cases x.a x.b y.a y.b e)
  where
    at : Dec (x.a < y.a) → (x.a ≤ y.a) × (y.a ≤ x.a → x.b < y.b) → Above x y
    at (yes l) w = inl l
    at (no l) w = inr (omega arith, w.1 (omega arith))

-- the last of the links x, xs
last_from : PlanLink → List PlanLink → PlanLink
last_from x [] = x
last_from x (y ∷ ys) = last_from y ys

rising_more : (x : PlanLink) (xs : List PlanLink) (y : PlanLink) → RisingFrom x xs → Above (last_from x xs) y → RisingFrom x (xs ++ y ∷ [])
unfolding RisingFrom last_from
rising_more x [] y r h = (h, tt)
rising_more x (z ∷ zs) y r h = (r.0, rising_more z zs y r.1 h)

rising_last : (x : PlanLink) (xs : List PlanLink) (y : PlanLink) → RisingFrom x (xs ++ y ∷ []) → Above (last_from x xs) y
unfolding RisingFrom last_from
rising_last x [] y r = r.0
rising_last x (z ∷ zs) y r = rising_last z zs y r.1

last_at : (f : PlanLink → ℕ) (x : PlanLink) (xs : List PlanLink) → get_or (map f (x ∷ xs)) (length xs) 0 ≡ f (last_from x xs)
unfolding last_from
last_at f x [] = refl
last_at f x (y ∷ ys) = last_at f y ys

-- ---- the last link in the network of the links read so far

last_stored : (f : PlanLink → ℕ) (x : PlanLink) (xs : List PlanLink) → get_or (padded 128 (map f (x ∷ xs))) (suc (length xs) - 1) 0 ≡ f (last_from x xs)
last_stored f x xs =
    ap (λ k. get_or (padded 128 (map f (x ∷ xs))) k 0) (omega arith)
    ∙ padded_at 128 (map f (x ∷ xs)) (length xs) (omega (arith, length-map xs f))
    ∙ last_at f x xs

-- a link more and the test for it, by the links before it
follows_from : (p : Plan) (x : PlanLink) (xs : List PlanLink) (y : PlanLink) → p.links ≡ x ∷ xs → follows_of (network_of p) y.a y.b ≡ rises (last_from x xs).a (last_from x xs).b y.a y.b
unfolding follows_of network_of
follows_from p x xs y e =
    rw e (if_eq_no (suc (length xs)) 0 true _ (λ z. omega arith) ∙ ap₂ (λ a b. rises a b y.a y.b) (last_stored (λ z. z.a) x xs) (last_stored (λ z. z.b) x xs))

module _ (p : Plan) (y : PlanLink) where
  pub follows_rising : Rising p.links → follows_of (network_of p) y.a y.b ≡ true → Rising (p.links ++ y ∷ [])
  unfolding Rising RisingFrom
  follows_rising r f = at p.links refl r
    where
      at : (xs : List PlanLink) → p.links ≡ xs → Rising xs → Rising (xs ++ y ∷ [])
      at [] e r' = tt
      at (x ∷ xs) e r' = rising_more x xs y r' (rises_above (last_from x xs) y (sym (follows_from p x xs y e) ∙ f))

  pub rising_follows : Rising (p.links ++ y ∷ []) → follows_of (network_of p) y.a y.b ≡ true
  unfolding Rising follows_of network_of
  rising_follows r = at p.links refl r
    where
      at : (xs : List PlanLink) → p.links ≡ xs → Rising (xs ++ y ∷ []) → follows_of (network_of p) y.a y.b ≡ true
      at [] e r' = if_eq_yes (length p.links) 0 true _ (ap length e)
      at (x ∷ xs) e r' = follows_from p x xs y e ∙ above_rises (last_from x xs) y (rising_last x xs y r')

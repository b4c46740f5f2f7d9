-- Two choices by one test are the same where their branches are.
-- Assumes nothing.
use Prim.Native.Nat.{ℕ, ◌<◌}
use mathlib.Core.Path.{◌≡◌, refl}
use mathlib.Core.Bool.{Bool, true, false}
use lib.Dec.{ltb}
use borrow.Author.Tests.{ltb-true}
use Rattle.laws.specs.Choice.{if_b, if_lt}

pub b_same : {A : Type 0} (t : Bool) (x y z : A) → (t ≡ true → x ≡ y) → if_b t x z ≡ if_b t y z
unfolding if_b
b_same true x y z e = e refl
b_same false x y z e = refl

pub lt_same : {A : Type 0} (a b : ℕ) (x y z : A) → (a < b → x ≡ y) → if_lt a b x z ≡ if_lt a b y z
unfolding if_lt
lt_same a b x y z e = b_same (ltb a b) x y z (λ t. e (ltb-true a b t))

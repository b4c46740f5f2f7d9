-- Choice words: each picks one of two values by a test. They are shut, so that a definition written with them stays as it reads, and a
-- proof takes one branch by a law (`proofs/Choice.antt`) and not by computing the test.
-- Assumes nothing.
use Rattle.std.specs.Prelude.{ℕ, Bool, true, false, ltb, eqb}

-- x where the test holds, y where not
unfoldable pub if_b : {A : Type 0} → Bool → A → A → A
if_b true x y = x
if_b false x y = y

-- x where a is below b, y where not
unfoldable pub if_lt : {A : Type 0} → ℕ → ℕ → A → A → A
if_lt a b x y = if_b (ltb a b) x y

-- x where a is b, y where not
unfoldable pub if_eq : {A : Type 0} → ℕ → ℕ → A → A → A
if_eq a b x y = if_b (eqb a b) x y

-- both tests hold
unfoldable pub both : Bool → Bool → Bool
both s t = if_b s t false

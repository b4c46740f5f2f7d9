-- The loop keeps its claims sound, and as many nodes: a claim takes one node from the unclaimed and counts one more.
-- Assumes nothing.
use Prim.Native.Nat.{ℕ, zero, suc, ◌+◌, ◌<◌, ◌≤◌}
use native.Mathlib.Omega.{arith}
use mathlib.Core.Path.{◌≡◌, refl, sym, ◌∙◌, ap, subst}
use mathlib.Core.Bool.{true}
use mathlib.Core.List.{List}
use lib.ListN.{get_or}
use Rattle.laws.specs.Below.{fold_below}
use Rattle.laws.proofs.Choice.{lt_elim}
use Rattle.laws.proofs.Below.{set_keeps}
use Rattle.laws.proofs.Entries.{repeated_at}
use Rattle.nodeset.specs.Marks.{member, removed, size_of, lowest_of}
use Rattle.nodeset.proofs.Marks.{member_below, removed_fits, lowest_is_in, lowest_below}
use Rattle.nodeset.proofs.Members.{size_rest, size_is_sum, sum_in_empty}
use Rattle.claims.specs.Claiming.{Claiming, put, nobody, rooted, unclaimed_of, claims_all, spread, step}
use Rattle.claims.specs.Sound.{nodes_of, Sound}
use Rattle.claims.proofs.Marks.{lowest_second, all_fits, all_size}
use Rattle.claims.proofs.Each.{next, SomeLeft, claims_keep}

-- r is sound and has as many nodes as s
pub record SoundAs (s r : Claiming) : Type 0 where
  pub sound : Sound r
  pub same : nodes_of r ≡ nodes_of s

same_as : {s : Claiming} → Sound s → SoundAs s s
same_as sound = record { sound = sound; same = refl }

then_as : {s r t : Claiming} → SoundAs s r → SoundAs r t → SoundAs s t
then_as a b = record { sound = b.sound; same = b.same ∙ a.same }

-- ---- one claim

pub put_sound : {s : Claiming} → Sound s → (x p v : ℕ) → member s.unclaimed.marks p ≡ true → SoundAs s (put x p v s)
unfolding put
put_sound {s} sound x p v free =
    record {
      sound =
          record {
            few = omega (arith, fewer, sound.few);
            marks_fit = removed_fits left p sound.marks_fit;
            nodes = set_keeps (λ q. q < 64) s.order s.count p 0 (member_below left p free) sound.nodes;
          };
      same = omega (arith, fewer);
    }
  where
    left : ℕ
    left = s.unclaimed.marks

    fewer : size_of left ≡ suc (size_of (removed left p))
    fewer = size_rest left p free

-- ---- a root

-- where a node is left, the lowest is one
pub lowest_left : {s : Claiming} → Sound s → (i : ℕ) → i < nodes_of s → s.count ≤ i → member s.unclaimed.marks (lowest_of s.unclaimed.marks) ≡ true
lowest_left {s} sound i h l =
    let some : s.unclaimed.marks ≡ 0 → ⊥ = λ e. omega (arith, ap size_of e, size_is_sum 0, sum_in_empty (λ _. 1)) in
    lowest_is_in s.unclaimed.marks (lowest_below s.unclaimed.marks (omega arith) sound.marks_fit)

-- the same of r, where s is what is seen of it
pub root_left : {s r : Claiming} → Sound s → s ≡ r → (i : ℕ) → i < nodes_of r → s.count ≤ i → member r.unclaimed.marks (lowest_of s.unclaimed.marks) ≡ true
root_left {s} sound e i h l =
    subst (λ (r : Claiming). member r.unclaimed.marks (lowest_of s.unclaimed.marks) ≡ true) e (lowest_left sound i (subst (λ (r : Claiming). i < nodes_of r) (sym e) h) l)

pub rooted_sound : {s : Claiming} → Sound s → (i : ℕ) → i < nodes_of s → SoundAs s (rooted i s)
unfolding rooted
rooted_sound {s} sound i h =
    lt_elim (SoundAs s) i s.count s (put (lowest_of s.unclaimed.marks) (lowest_of s.unclaimed.marks) 0 s) (λ _. same_as sound)
    (λ l. put_sound sound (lowest_of s.unclaimed.marks) (lowest_of s.unclaimed.marks) 0 (lowest_left sound i h l))

-- ---- the neighbours

module _ (neighbours x v : ℕ) where
  pub next_sound : {s : Claiming} → Sound s → SomeLeft neighbours x v s → SoundAs s (next neighbours x v s)
  next_sound {s} sound some =
      put_sound sound x (lowest_of (unclaimed_of neighbours s)) v (lowest_second neighbours s.unclaimed.marks sound.marks_fit some)

  claims_sound : {s : Claiming} → Sound s → SoundAs s (claims_all neighbours x v s)
  claims_sound {s} sound =
      claims_keep neighbours x v (SoundAs s) (λ r some a. then_as a (next_sound a.sound some)) s (same_as sound)

-- ---- a step

module _ (sets : List ℕ) (depth : ℕ) where
  spread_sound : {s : Claiming} → Sound s → (x : ℕ) → SoundAs s (spread sets depth x s)
  unfolding spread
  spread_sound {s} sound x =
      lt_elim (SoundAs s) (get_or s.deep x 0) depth (claims_all (get_or sets x 0) x (get_or s.deep x 0 + 1) s) s
      (λ _. claims_sound (get_or sets x 0) x (get_or s.deep x 0 + 1) sound)
      (λ _. same_as sound)

  pub step_sound : {s : Claiming} → Sound s → (i : ℕ) → i < nodes_of s → SoundAs s (step sets depth i s)
  unfolding step
  step_sound {s} sound i h =
      let root = rooted_sound sound i h in
      then_as root (spread_sound root.sound _)

-- ---- the start

pub nobody_nodes : (n : ℕ) → n ≤ 64 → nodes_of (nobody n) ≡ n
unfolding nobody
nobody_nodes n few = omega (arith, all_size n few)

pub nobody_sound : (n : ℕ) → n ≤ 64 → Sound (nobody n)
unfolding nobody
nobody_sound n few =
    record { few = omega (arith, all_size n few); marks_fit = all_fits n; nodes = λ k. omega (arith, repeated_at {A = ℕ} 64 0 k) }

-- ---- all steps

-- after each step there are as many nodes as at the start
module _ (sets : List ℕ) (depth n : ℕ) (few : n ≤ 64) where
  steps_sound : (i : ℕ) → i ≤ n → SoundAs (nobody n) (fold_below (step sets depth) (nobody n) i)
  unfolding fold_below
  steps_sound zero h = same_as (nobody_sound n few)
  steps_sound (suc i) h =
      let before = steps_sound i (omega arith) in
      then_as before (step_sound sets depth before.sound i (omega (arith, before.same, nobody_nodes n few)))

  pub steps_nodes : (i : ℕ) → i ≤ n → nodes_of (fold_below (step sets depth) (nobody n) i) ≡ n
  steps_nodes i h = (steps_sound i h).same ∙ nobody_nodes n few

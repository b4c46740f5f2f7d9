-- A message that joins a queue or leaves it keeps the queues in order: at most two wait, each is a packet or an ack with no value, and past a
-- queue's length its entries are 0. The entries of the other directions stay as they are.
-- Assumes nothing.
use Prim.Native.Nat.{ℕ, zero, suc, ◌+◌, ◌-◌, ◌*◌, ◌<◌, ◌≤◌}
use native.Mathlib.Omega.{arith}
use native.Mathlib.Decide.{ℕ_discrete, dec_lt}
use mathlib.Core.Path.{◌≡◌, refl, ◌∙◌, ap}
use mathlib.Core.Bool.{true}
use mathlib.Core.List.{List}
use lib.ListN.{length, get_or, set, length-set, get_or-eq_default}
use lib.Seq.{get_or-set_other}
use Rattle.laws.proofs.Choice.{lt_elim}
use Rattle.laws.proofs.Entries.{set_keeps_at, set_here}
use Rattle.queue.specs.declared.Queues.{Queues}
use Rattle.queue.specs.Queue.{queues, pushed, moved_up, popped}
use Rattle.ranges.specs.Fits.{entry_fits, sort_fits, load_fits}
use Rattle.synchronizer.proofs.States.{Message, entry_of, entry_most, entry_out, sort_in, sort_out, sort_of, load_of, QueuesPass}

-- how long the queues' arrays are
pub record QueuesLong (u : Queues) : Type 0 where
  pub lens : length u.lens ≡ 256
  pub sorts : length u.sorts ≡ 512
  pub loads : length u.loads ≡ 512

-- what is kept
abbrev pub QueuesSound : ℕ → Queues → Type 0
QueuesSound links u = QueuesPass links u × QueuesLong u

-- ---- the second entry moves up

pub length_moved : (xs : List ℕ) (d : ℕ) → length (moved_up xs d) ≡ length xs
unfolding moved_up
length_moved xs d = length-set (set xs (d * 2) (get_or xs (d * 2 + 1) 0)) (d * 2 + 1) 0 ∙ length-set xs (d * 2) (get_or xs (d * 2 + 1) 0)

module _ (xs : List ℕ) (d : ℕ) where
  pub moved_other : (k : ℕ) → (k ≡ d * 2 → ⊥) → (k ≡ d * 2 + 1 → ⊥) → get_or (moved_up xs d) k 0 ≡ get_or xs k 0
  unfolding moved_up
  moved_other k f g =
      get_or-set_other (set xs (d * 2) (get_or xs (d * 2 + 1) 0)) (d * 2 + 1) k 0 0 g
      ∙ get_or-set_other xs (d * 2) k (get_or xs (d * 2 + 1) 0) 0 f

  pub moved_first : (k : ℕ) → k ≡ d * 2 → d * 2 < length xs → get_or (moved_up xs d) k 0 ≡ get_or xs (d * 2 + 1) 0
  unfolding moved_up
  moved_first k e h =
      get_or-set_other (set xs (d * 2) (get_or xs (d * 2 + 1) 0)) (d * 2 + 1) k 0 0 (λ q. omega arith)
      ∙ set_here xs (d * 2) k (get_or xs (d * 2 + 1) 0) 0 e h

  pub moved_second : (k : ℕ) → k ≡ d * 2 + 1 → d * 2 + 1 < length xs → get_or (moved_up xs d) k 0 ≡ 0
  unfolding moved_up
  moved_second k e h =
      set_here (set xs (d * 2) (get_or xs (d * 2 + 1) 0)) (d * 2 + 1) k 0 0 e (omega (arith, length-set xs (d * 2) (get_or xs (d * 2 + 1) 0)))

-- ---- the queues stay in order

-- a test of two entries goes by the entries alone
same_sort : {len len' sort sort' : ℕ} (j : ℕ) → len ≡ len' → sort ≡ sort' → sort_fits len' j sort' ≡ true → sort_fits len j sort ≡ true
same_sort j a b e = rw (a, b) e

same_load : {sort sort' load load' : ℕ} → sort ≡ sort' → load ≡ load' → load_fits sort' load' ≡ true → load_fits sort load ≡ true
same_load a b e = rw (a, b) e

module _ (links : ℕ) (u : Queues) (sound : QueuesSound links u) (d : ℕ) where
  pass : QueuesPass links u
  pass = sound.0

  long : QueuesLong u
  long = sound.1

  pub pushed_keeps : (sort load : ℕ) → links ≤ 128 → d < links * 2 → Message sort → load_fits sort load ≡ true → QueuesSound links (pushed u d sort load)
  unfolding pushed
  pushed_keeps sort load most used message value =
      lt_elim (QueuesSound links) (get_or u.lens d 0) 2 (queues lens sorts loads) u
      (λ room. (record { at_most_two = lengths room; sort = λ e j h l. sorts_fit_lem room e j h l (ℕ_discrete e d) (ℕ_discrete j n); load = λ e h. loads_fit_lem room e h (ℕ_discrete e (d * 2 + n)) }, sizes))
      (λ _. sound)
    where
      n : ℕ
      n = get_or u.lens d 0

      lens : List ℕ
      lens = set u.lens d (n + 1)

      sorts : List ℕ
      sorts = set u.sorts (d * 2 + n) sort

      loads : List ℕ
      loads = set u.loads (d * 2 + n) load

      sizes : QueuesLong (queues lens sorts loads)
      sizes =
          record {
            lens = length-set u.lens d (n + 1) ∙ long.lens;
            sorts = length-set u.sorts (d * 2 + n) sort ∙ long.sorts;
            loads = length-set u.loads (d * 2 + n) load ∙ long.loads;
          }

      lengths : n < 2 → (e : ℕ) → e < 256 → entry_fits 2 (links * 2) e (get_or lens e 0) ≡ true
      lengths room =
          set_keeps_at (λ e v. e < 256 → entry_fits 2 (links * 2) e v ≡ true) u.lens d (n + 1) 0 (λ _. entry_of (λ _. omega arith) (λ past. absurd (omega arith))) pass.at_most_two

      longer : (e : ℕ) → e ≡ d → get_or lens e 0 ≡ n + 1
      longer e same = set_here u.lens d e (n + 1) 0 same (omega (arith, long.lens))

      sorts_fit_lem : n < 2 → (e j : ℕ) → e < 256 → j < 2 → Dec (e ≡ d) → Dec (j ≡ n) → sort_fits (get_or lens e 0) j (get_or sorts (e * 2 + j) 0) ≡ true
      sorts_fit_lem room e j h l (no other) _ =
          same_sort j (get_or-set_other u.lens d e (n + 1) 0 other) (get_or-set_other u.sorts (d * 2 + n) (e * 2 + j) sort 0 (λ q. other (omega arith))) (pass.sort e j h l)
      sorts_fit_lem room e j h l (yes same) (yes new) =
          same_sort j (longer e same) (set_here u.sorts (d * 2 + n) (e * 2 + j) sort 0 (omega arith) (omega (arith, long.sorts))) (sort_of (λ _. message) (λ past. absurd (omega arith)))
      sorts_fit_lem room e j h l (yes same) (no old) =
          let len : get_or u.lens e 0 ≡ n = ap (λ x. get_or u.lens x 0) same in
          let was = pass.sort e j h l in
          same_sort j (longer e same) (get_or-set_other u.sorts (d * 2 + n) (e * 2 + j) sort 0 (λ q. old (omega arith))) (sort_of (λ waits. sort_in was (omega arith)) (λ past. sort_out was (omega arith)))

      loads_fit_lem : n < 2 → (e : ℕ) → e < 512 → Dec (e ≡ d * 2 + n) → load_fits (get_or sorts e 0) (get_or loads e 0) ≡ true
      loads_fit_lem room e h (no other) =
          same_load (get_or-set_other u.sorts (d * 2 + n) e sort 0 other) (get_or-set_other u.loads (d * 2 + n) e load 0 other) (pass.load e h)
      loads_fit_lem room e h (yes end) =
          same_load (set_here u.sorts (d * 2 + n) e sort 0 end (omega (arith, long.sorts))) (set_here u.loads (d * 2 + n) e load 0 end (omega (arith, long.loads))) value

  pub popped_keeps : QueuesSound links (popped u d)
  unfolding popped
  popped_keeps =
      lt_elim (QueuesSound links) 0 (get_or u.lens d 0) (queues lens (moved_up u.sorts d) (moved_up u.loads d)) u
      (λ some. (record { at_most_two = lengths some; sort = λ e j h l. sorts_fit_lem some e j h l (ℕ_discrete e d); load = λ e h. loads_fit_lem some e h (ℕ_discrete e (d * 2)) (ℕ_discrete e (d * 2 + 1)) }, sizes))
      (λ _. sound)
    where
      n : ℕ
      n = get_or u.lens d 0

      lens : List ℕ
      lens = set u.lens d (n - 1)

      sizes : QueuesLong (queues lens (moved_up u.sorts d) (moved_up u.loads d))
      sizes =
          record {
            lens = length-set u.lens d (n - 1) ∙ long.lens;
            sorts = length_moved u.sorts d ∙ long.sorts;
            loads = length_moved u.loads d ∙ long.loads;
          }

      -- a direction past the last has no queue
      there : 0 < n → d < 256
      there some = at (dec_lt d 256)
        where
          at : Dec (d < 256) → d < 256
          at (yes h) = h
          at (no h) = absurd (omega (arith, get_or-eq_default u.lens 0 {n = d} (omega (arith, long.lens))))

      lengths : 0 < n → (e : ℕ) → e < 256 → entry_fits 2 (links * 2) e (get_or lens e 0) ≡ true
      lengths some =
          set_keeps_at (λ e v. e < 256 → entry_fits 2 (links * 2) e v ≡ true) u.lens d (n - 1) 0 (λ h. entry_of (λ _. omega (arith, entry_most 2 (links * 2) d (pass.at_most_two d h))) (λ past. absurd (omega (arith, entry_out 2 (pass.at_most_two d h) past)))) pass.at_most_two

      shorter : 0 < n → (e : ℕ) → e ≡ d → get_or lens e 0 ≡ n - 1
      shorter some e same = set_here u.lens d e (n - 1) 0 same (omega (arith, long.lens, there some))

      sorts_fit_lem : 0 < n → (e j : ℕ) → e < 256 → j < 2 → Dec (e ≡ d) → sort_fits (get_or lens e 0) j (get_or (moved_up u.sorts d) (e * 2 + j) 0) ≡ true
      sorts_fit_lem some e j h l (no other) =
          same_sort j (get_or-set_other u.lens d e (n - 1) 0 other) (moved_other u.sorts d (e * 2 + j) (λ q. other (omega arith)) (λ q. other (omega arith))) (pass.sort e j h l)
      sorts_fit_lem some e zero h l (yes same) =
          let was = pass.sort d 1 (there some) (omega arith) in
          same_sort 0 (shorter some e same) (moved_first u.sorts d (e * 2 + 0) (omega arith) (omega (arith, long.sorts, there some))) (sort_of (λ waits. sort_in was (omega arith)) (λ past. sort_out was (omega arith)))
      sorts_fit_lem some e (suc zero) h l (yes same) =
          let two = entry_most 2 (links * 2) d (pass.at_most_two d (there some)) in
          same_sort 1 (shorter some e same) (moved_second u.sorts d (e * 2 + 1) (omega arith) (omega (arith, long.sorts, there some))) (sort_of (λ waits. absurd (omega arith)) (λ _. refl))
      sorts_fit_lem some e (suc (suc j)) h l (yes same) = absurd (omega arith)

      loads_fit_lem : 0 < n → (e : ℕ) → e < 512 → Dec (e ≡ d * 2) → Dec (e ≡ d * 2 + 1) → load_fits (get_or (moved_up u.sorts d) e 0) (get_or (moved_up u.loads d) e 0) ≡ true
      loads_fit_lem some e h (yes first) _ =
          same_load (moved_first u.sorts d e first (omega (arith, long.sorts, there some))) (moved_first u.loads d e first (omega (arith, long.loads, there some))) (pass.load (d * 2 + 1) (omega (arith, there some)))
      loads_fit_lem some e h (no _) (yes second) =
          same_load (moved_second u.sorts d e second (omega (arith, long.sorts, there some))) (moved_second u.loads d e second (omega (arith, long.loads, there some))) (load_of (λ _. refl))
      loads_fit_lem some e h (no f) (no g) =
          same_load (moved_other u.sorts d e f g) (moved_other u.loads d e f g) (pass.load e h)

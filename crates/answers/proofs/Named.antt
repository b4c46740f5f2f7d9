-- A number that comes back names one answer alone.
-- Assumes nothing.
use Rattle.std.proofs.Common.{ℕ, ◌≡◌, zero, suc, List, [], ◌∷◌, refl, sym, ◌∙◌, ap}
use Rattle.std.specs.Prelude.{Result, Ok, Err, ⊤}
use Rattle.answers.specs.declared.Refusal.{Refusal}
use Rattle.answers.specs.declared.Refusal.TheVariants.{KindUnknown, CutShort, OutOfOrder, TooMany, OutOfRange, Untied, Lost, Inside, NotOne, Unjoined, ActionUnknown, ActionCutShort, NoSuchNode, NoSuchLink, LastRoundOver, NeedMissing, NotInRange, QueueFull, TooLong, MoreRoundsThanPlanned, BufferTooShort, TooDeep, NoRoom}
use Rattle.answers.specs.Numbers.{number_of, answer_of}

-- the answers in the order of their numbers
answers : List (Result ⊤ Refusal)
answers = Ok tt ∷ Err KindUnknown ∷ Err CutShort ∷ Err OutOfOrder ∷ Err TooMany ∷ Err OutOfRange ∷ Err Untied ∷ Err Lost ∷ Err Inside ∷ Err NotOne ∷ Err Unjoined ∷ Err ActionUnknown ∷ Err ActionCutShort ∷ Err NoSuchNode ∷ Err NoSuchLink ∷ Err LastRoundOver ∷ Err NeedMissing ∷ Err NotInRange ∷ Err QueueFull ∷ Err TooLong ∷ Err MoreRoundsThanPlanned ∷ Err BufferTooShort ∷ Err TooDeep ∷ Err NoRoom ∷ []

entry : List (Result ⊤ Refusal) → ℕ → Result ⊤ Refusal
entry [] n = Ok tt
entry (x ∷ xs) zero = x
entry (x ∷ xs) (suc n) = entry xs n

named : (r : Result ⊤ Refusal) → entry answers (answer_of r) ≡ r
unfolding entry answers
named (Ok tt) = refl
named (Err KindUnknown) = refl
named (Err CutShort) = refl
named (Err OutOfOrder) = refl
named (Err TooMany) = refl
named (Err OutOfRange) = refl
named (Err Untied) = refl
named (Err Lost) = refl
named (Err Inside) = refl
named (Err NotOne) = refl
named (Err Unjoined) = refl
named (Err ActionUnknown) = refl
named (Err ActionCutShort) = refl
named (Err NoSuchNode) = refl
named (Err NoSuchLink) = refl
named (Err LastRoundOver) = refl
named (Err NeedMissing) = refl
named (Err NotInRange) = refl
named (Err QueueFull) = refl
named (Err TooLong) = refl
named (Err MoreRoundsThanPlanned) = refl
named (Err BufferTooShort) = refl
named (Err TooDeep) = refl
named (Err NoRoom) = refl

pub answer_of-injective : (a b : Result ⊤ Refusal) → answer_of a ≡ answer_of b → a ≡ b
answer_of-injective a b e = sym (named a) ∙ ap (entry answers) e ∙ named b

refusal_in : Refusal → Result ⊤ Refusal → Refusal
refusal_in d (Ok x) = d
refusal_in d (Err e) = e

pub number_of-injective : (a b : Refusal) → number_of a ≡ number_of b → a ≡ b
unfolding refusal_in
number_of-injective a b e = ap (refusal_in a) (answer_of-injective (Err a) (Err b) e)

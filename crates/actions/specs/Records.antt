-- Action records from bytes: "one byte of kind, then a body whose length the kind fixes".
-- Assumes nothing.
use Rattle.std.specs.Prelude.{ℕ, ◌+◌, ◌-◌, ◌≤◌, ◌≡◌, List, length, get_or, Result, Ok, Err}
use Rattle.answers.specs.declared.Refusal.{Refusal}
use Rattle.answers.specs.declared.Refusal.TheVariants.{ActionUnknown, ActionCutShort}
use Rattle.laws.specs.Choice.{if_lt}
use Rattle.laws.specs.Below.{list_below}
use Rattle.actions.specs.declared.Kind.{Kind}
use Rattle.actions.specs.declared.Place.{Place}
use Rattle.actions.specs.declared.Act.{Act}
use Rattle.actions.specs.Kinds.{number_of, kinds, kind_at}
use Rattle.actions.specs.Table.{place_of}

-- "one or two node numbers": p and q where a link is named, p alone where not
unfoldable pub names_of : Place → ℕ
names_of Place.Node = 1
names_of Place.Link = 2
names_of Place.PreferredLink = 2
names_of Place.Child = 1
names_of Place.Root = 1

-- "the body length of each fixed"
unfoldable pub body_of : Kind → ℕ
body_of k = names_of (place_of k)

-- the kind of a number, "indexed by kind minus 16", and 11 where there is none
unfoldable pub kind_from : ℕ → Result Kind Refusal
kind_from n = if_lt n 16 (Err ActionUnknown) (if_lt (n - 16) (length kinds) (Ok (kind_at (n - 16))) (Err ActionUnknown))

-- an action of a kind, at p and q, in so many bytes
abbrev pub act : Kind → ℕ → ℕ → ℕ → Act
act k p q width = record { kind = k; p = p; q = q; width = width }

-- the record at a place of the bytes whose first byte is that kind's; where the body names one node, q is p
unfoldable pub act_at : List ℕ → ℕ → Kind → Result Act Refusal
act_at s at k =
    if_lt (at + body_of k) (length s) (Ok (act k (get_or s (at + 1) 0) (get_or s (at + body_of k) 0) (body_of k + 1))) (Err ActionCutShort)

-- the record at a place of the bytes: 11 before 12; no bytes is 12
unfoldable pub read_at : List ℕ → ℕ → Result Act Refusal
read_at s at =
    if_lt at (length s)
    (if_lt (get_or s at 0) 16 (Err ActionUnknown)
    (if_lt (get_or s at 0 - 16) (length kinds) (act_at s at (kind_at (get_or s at 0 - 16))) (Err ActionUnknown)))
    (Err ActionCutShort)

-- the table of body lengths, "indexed by kind minus 16"
unfoldable pub body_table : List ℕ
body_table = list_below (λ i. body_of (kind_at i)) (length kinds)

-- the same for people: what it is for the bytes to hold an action of kind k, width bytes long, at a place
pub record Holds (s : List ℕ) (at : ℕ) (k : Kind) (p q width : ℕ) : Type 0 where
  pub within : at + width ≤ length s
  pub kind : get_or s at 0 ≡ number_of k
  pub whole : width ≡ body_of k + 1
  pub first : get_or s (at + 1) 0 ≡ p
  pub last : get_or s (at + body_of k) 0 ≡ q

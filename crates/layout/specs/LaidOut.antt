-- What a layout is, in document 02's words: the plan q is the plan p with its clusters laid out to a depth. The claim rule is `ClaimedSo`, of the
-- crate claims.
-- Assumes nothing.
use Rattle.std.specs.Prelude.{ℕ, ◌<◌, ◌≡◌, Bool, List, map, length, get_or}
use Rattle.records.specs.Plan.{Plan}
use Rattle.links.specs.Links.{has_link}
use Rattle.plan.specs.Accepted.{plan_network}
use Rattle.claims.specs.Claimed.{Claims, ClaimedSo}
use Rattle.layout.specs.FirstLinks.{FirstLinks}

-- the parents of a plan's nodes, and their start values
abbrev pub parents_in : Plan → List ℕ
parents_in p = map (λ x. x.parent) p.nodes

abbrev pub starts_in : Plan → List ℕ
starts_in p = map (λ x. x.start) p.nodes

-- the ends of its links
abbrev pub lowers_in : Plan → List ℕ
lowers_in p = map (λ x. x.a) p.links

abbrev pub uppers_in : Plan → List ℕ
uppers_in p = map (λ x. x.b) p.links

-- their flags
abbrev pub flags_in : Plan → List ℕ
flags_in p = map (λ x. x.flag) p.links

-- x and y have a link
abbrev pub wired : Plan → ℕ → ℕ → Bool
wired p = has_link (lowers_in p) (uppers_in p) (length p.links)

-- two plans have the same rounds, values and links, whatever their parents and flags
pub record SameWires (p q : Plan) : Type 0 where
  pub rounds : q.rounds ≡ p.rounds
  pub starts : starts_in q ≡ starts_in p
  pub lowers : lowers_in q ≡ lowers_in p
  pub uppers : uppers_in q ≡ uppers_in p

pub record LaidOut (depth : ℕ) (p q : Plan) : Type 0 where
  -- "links, values and rounds are unchanged"
  pub same : SameWires p q
  -- "take the lowest unclaimed node as a root, claim unclaimed nodes breadth first down to that depth .., and repeat"
  pub claims : Claims
  pub claimed : ClaimedSo (wired p) (length p.nodes) depth claims
  -- "The parent is the node that claimed it."
  pub parents : (i : ℕ) → i < length p.nodes → get_or (parents_in q) i 0 ≡ claims.by i
  -- "The preferred link of two joined clusters is the first in the list."
  pub preferred : FirstLinks (plan_network q)

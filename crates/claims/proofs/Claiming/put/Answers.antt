-- `put`: the three lists get their entry and the set loses the node; there is room for it, since the node was unclaimed.
use Rattle.std.proofs.Common.{◌≡◌, true, arith, sym, subst}
use Rattle.nodeset.specs.Marks.{member}
use Rattle.nodeset.proofs.Marks.{member_below}
use Rattle.nodeset.proofs.Members.{size_rest}
use Rattle.claims.specs.Claiming.{Claiming, put}
use Rattle.claims.proofs.Sound.{put_sound}
use Rattle.claims.proofs.Claiming.put.Goals as goal

pub bounds-self-inside-self-inside : goal.bounds-self-inside-self-inside
bounds-self-inside-self-inside c =
    let free : member c.self.inside.unclaimed.marks c.args.node ≡ true = subst (λ (s : Claiming). member s.unclaimed.marks c.args.node ≡ true) (sym c.self.view_is) c.requires in
    omega (arith, c.self.invariant.few, size_rest c.self.inside.unclaimed.marks c.args.node free)

pub bounds-self-inside-at : goal.bounds-self-inside-at
bounds-self-inside-at c = member_below _ _ c.requires

pub bounds-self-inside-at-2 : goal.bounds-self-inside-at-2
bounds-self-inside-at-2 c = member_below _ _ c.requires

pub invariant_of-self : goal.invariant_of-self
unfolding put
invariant_of-self c =
    let free : member c.self.inside.unclaimed.marks c.args.node ≡ true = subst (λ (s : Claiming). member s.unclaimed.marks c.args.node ≡ true) (sym c.self.view_is) c.requires in
    rw (← c.remove-self-inside.ensures) at (put_sound c.self.invariant c.args.x c.args.node c.args.deep free).sound

pub returns : goal.returns
unfolding put
returns c = rw (← c.self.view_is, ← c.remove-self-inside.ensures)

-- The network of what has been read so far: none is the network of zeros, one record more is one entry more in the lists, and two plans have
-- the same network only if they are the same.
-- Assumes nothing.
use Prim.Native.Nat.{ℕ, ◌-◌, ◌<◌}
use native.Mathlib.Omega.{arith}
use mathlib.Core.Path.{◌≡◌, refl, sym, ◌∙◌, ap, ap₂}
use mathlib.Core.List.{List, [], ◌∷◌, ◌++◌, map}
use lib.ListN.{length, take, set, replicate, length-map}
use lib.Seq.{take-append_seam}
use Rattle.records.specs.declared.Record.{Record}
use Rattle.records.specs.declared.Record.TheVariants.{End, Rounds, Node, Link}
use Rattle.network.specs.Zeros.{zero_network}
use Rattle.records.specs.Reader.{rounds_added, node_added, link_added, HasRoom, add_of}
use Rattle.records.specs.Plan.{Plan, PlanNode, PlanLink, padded, network_of}
use Rattle.records.specs.Keeps.{no_plan, with}
use Rattle.records.proofs.Lists.{map_more, length_more, padded_more}

pub network_of_none : network_of no_plan ≡ zero_network
unfolding network_of zero_network padded
network_of_none = refl

-- a field of the entries, stored at the first free place
stored : {A : Type 0} (f : A → ℕ) (n : ℕ) (xs : List A) (x : A) → length xs < n → padded n (map f (xs ++ x ∷ [])) ≡ set (padded n (map f xs)) (length xs) (f x)
stored f n xs x h =
    ap (padded n) (map_more f xs x)
    ∙ sym (padded_more n (map f xs) (f x) (omega (arith, length-map xs f)))
    ∙ ap (λ k. set (padded n (map f xs)) k (f x)) (length-map xs f)

pub network_with : (p : Plan) (r : Record) → HasRoom (network_of p) r → network_of (with p r) ≡ add_of (network_of p) r
unfolding network_of rounds_added node_added link_added
network_with p End h = refl
network_with p (Rounds v) h = refl
network_with p (Node number parent start) h =
    let x : PlanNode = record { parent = parent; start = start } in
    rw (length_more p.nodes x, stored (λ y. y.parent) 64 p.nodes x h, stored (λ y. y.start) 64 p.nodes x h)
network_with p (Link a b flag) h =
    let x : PlanLink = record { a = a; b = b; flag = flag } in
    rw (length_more p.links x, stored (λ y. y.a) 128 p.links x h, stored (λ y. y.b) 128 p.links x h, stored (λ y. y.flag) 128 p.links x h)

-- ---- a plan can be told from its network

padded_same : (n : ℕ) (xs ys : List ℕ) → length xs ≡ length ys → padded n xs ≡ padded n ys → xs ≡ ys
unfolding padded
padded_same n xs ys l e =
    sym (take-append_seam xs (replicate (n - length xs) 0))
    ∙ ap₂ take l e
    ∙ take-append_seam ys (replicate (n - length ys) 0)

-- lists of entries with the same fields
same_nodes : (xs ys : List PlanNode) → map (λ x. x.parent) xs ≡ map (λ x. x.parent) ys → map (λ x. x.start) xs ≡ map (λ x. x.start) ys → xs ≡ ys
same_nodes [] [] e f = refl
same_nodes [] (y ∷ ys) e f = cc
same_nodes (x ∷ xs) [] e f = cc
same_nodes (x ∷ xs) (y ∷ ys) e f =
    let parent : x.parent ≡ y.parent = cc in
    let start : x.start ≡ y.start = cc in
    let rest : xs ≡ ys = same_nodes xs ys (cc) (cc) in
    ap₂ (λ z zs. z ∷ zs) (λ i. record { parent = parent i; start = start i }) rest

same_links : (xs ys : List PlanLink) → map (λ x. x.a) xs ≡ map (λ x. x.a) ys → map (λ x. x.b) xs ≡ map (λ x. x.b) ys → map (λ x. x.flag) xs ≡ map (λ x. x.flag) ys → xs ≡ ys
same_links [] [] e f g = refl
same_links [] (y ∷ ys) e f g = cc
same_links (x ∷ xs) [] e f g = cc
same_links (x ∷ xs) (y ∷ ys) e f g =
    let a : x.a ≡ y.a = cc in
    let b : x.b ≡ y.b = cc in
    let flag : x.flag ≡ y.flag = cc in
    let rest : xs ≡ ys = same_links xs ys (cc) (cc) (cc) in
    ap₂ (λ z zs. z ∷ zs) (λ i. record { a = a i; b = b i; flag = flag i }) rest

-- a field of the entries, from the padded list of it
same_field : {A : Type 0} (f : A → ℕ) (n : ℕ) (xs ys : List A) → length xs ≡ length ys → padded n (map f xs) ≡ padded n (map f ys) → map f xs ≡ map f ys
same_field f n xs ys l e = padded_same n (map f xs) (map f ys) (length-map xs f ∙ l ∙ sym (length-map ys f)) e

pub one_plan : (p q : Plan) → network_of p ≡ network_of q → p ≡ q
unfolding network_of
one_plan p q e =
    let n = ap (λ x. x.nodes) e in
    let l = ap (λ x. x.links) e in
    let nodes = same_nodes p.nodes q.nodes (same_field (λ x. x.parent) 64 p.nodes q.nodes n (ap (λ x. x.parents) e)) (same_field (λ x. x.start) 64 p.nodes q.nodes n (ap (λ x. x.starts) e)) in
    let links = same_links p.links q.links (same_field (λ x. x.a) 128 p.links q.links l (ap (λ x. x.lowers) e)) (same_field (λ x. x.b) 128 p.links q.links l (ap (λ x. x.uppers) e)) (same_field (λ x. x.flag) 128 p.links q.links l (ap (λ x. x.flags) e)) in
    same_parts (ap (λ x. x.rounds) e) nodes links
  where
    same_parts : p.rounds ≡ q.rounds → p.nodes ≡ q.nodes → p.links ≡ q.links → p ≡ q
    same_parts r n l = λ i. record { rounds = r i; nodes = n i; links = l i }

-- A plan that has been read in part, and the records of a whole one. Records that keep the rules one after the other are the records of what
-- they add up to; and the records of a plan that keeps rules 1 to 5 keep the rules one after the other.
-- Assumes nothing.
use Prim.Native.Nat.{ℕ, zero, suc, ◌+◌, ◌<◌, ◌≤◌}
use native.Mathlib.Omega.{arith}
use mathlib.Core.Path.{◌≡◌, refl, sym, ◌∙◌, ap, ap₂, subst}
use mathlib.Core.Bool.{false}
use mathlib.Core.List.{List, [], ◌∷◌, ◌++◌, append-nil, append_assoc}
use lib.ListN.{length}
use Rattle.laws.proofs.Choice.{true_not_false}
use Rattle.records.specs.declared.Record.{Record}
use Rattle.records.specs.declared.Record.TheVariants.{End, Rounds, Node, Link}
use Rattle.records.specs.Reader.{closes_of}
use Rattle.records.specs.Plan.{Plan, PlanNode, PlanLink, rounds_bytes, node_bytes, nodes_bytes, link_bytes, links_bytes, bytes_of, NodesFit, LinkFits, LinksFit, RisingFrom, Rising, Keeps1to5}
use Rattle.records.specs.Keeps.{record_bytes, no_plan, with, Keeps, EachKeeps, with_all, records_bytes}
use Rattle.records.proofs.Lists.{length_more}

-- ---- the records of a plan, or of as much of it as has been read: rounds 0 stands for none

rounds_records : ℕ → List Record
rounds_records zero = []
rounds_records (suc n) = Rounds (suc n) ∷ []

node_records : ℕ → List PlanNode → List Record
node_records number [] = []
node_records number (x ∷ xs) = Node number x.parent x.start ∷ node_records (suc number) xs

link_records : List PlanLink → List Record
link_records [] = []
link_records (x ∷ xs) = Link x.a x.b x.flag ∷ link_records xs

pub records_of : Plan → List Record
records_of p = rounds_records p.rounds ++ node_records 0 p.nodes ++ link_records p.links

some_rounds : (v : ℕ) → 0 < v → rounds_records v ≡ Rounds v ∷ []
unfolding rounds_records
some_rounds zero h = absurd (omega arith)
some_rounds (suc n) h = refl

-- a record goes on exactly where it is not kind 0
goes_not_end : (r : Record) → closes_of r ≡ false → r ≡ End → ⊥
goes_not_end r c e = true_not_false (closes_of r) (ap closes_of e) c

pub not_end_goes : (r : Record) → (r ≡ End → ⊥) → closes_of r ≡ false
not_end_goes End n = absurd (n refl)
not_end_goes (Rounds v) n = refl
not_end_goes (Node number parent start) n = refl
not_end_goes (Link a b flag) n = refl

-- ---- lists of records, one after the other

pub with_all_append : (p : Plan) (rs qs : List Record) → with_all p (rs ++ qs) ≡ with_all (with_all p rs) qs
unfolding with_all
with_all_append p [] qs = refl
with_all_append p (r ∷ rs) qs = with_all_append (with p r) rs qs

pub bytes_append : (rs qs : List Record) → records_bytes (rs ++ qs) ≡ records_bytes rs ++ records_bytes qs
unfolding records_bytes
bytes_append [] qs = refl
bytes_append (r ∷ rs) qs =
    ap (λ l. record_bytes r ++ l) (bytes_append rs qs) ∙ sym (append_assoc (record_bytes r) (records_bytes rs) (records_bytes qs))

pub each_append : (p : Plan) (rs qs : List Record) → EachKeeps p rs → EachKeeps (with_all p rs) qs → EachKeeps p (rs ++ qs)
unfolding EachKeeps with_all
each_append p [] qs k l = l
each_append p (r ∷ rs) qs k l = (k.0, k.1, each_append (with p r) rs qs k.2 l)

pub with_one_more : (p : Plan) (rs : List Record) (r : Record) → with_all p (rs ++ r ∷ []) ≡ with (with_all p rs) r
unfolding with_all
with_one_more p rs r = with_all_append p rs (r ∷ [])

pub bytes_one_more : (rs : List Record) (r : Record) → records_bytes (rs ++ r ∷ []) ≡ records_bytes rs ++ record_bytes r
unfolding records_bytes
bytes_one_more rs r = bytes_append rs (r ∷ []) ∙ ap (λ l. records_bytes rs ++ l) (append-nil (record_bytes r))

pub each_one_more : (p : Plan) (rs : List Record) (r : Record) → EachKeeps p rs → closes_of r ≡ false → Keeps (with_all p rs) r → EachKeeps p (rs ++ r ∷ [])
unfolding EachKeeps
each_one_more p rs r k c w = each_append p rs (r ∷ []) k (goes_not_end r c, w, tt)

-- ---- one entry more

nodes_one_more : (number : ℕ) (xs : List PlanNode) (x : PlanNode) → node_records number (xs ++ x ∷ []) ≡ node_records number xs ++ Node (number + length xs) x.parent x.start ∷ []
unfolding node_records
nodes_one_more number [] x = ap (λ n. Node n x.parent x.start ∷ []) (omega arith)
nodes_one_more number (y ∷ ys) x =
    ap (λ l. Node number y.parent y.start ∷ l)
    (nodes_one_more (suc number) ys x ∙ ap (λ n. node_records (suc number) ys ++ Node n x.parent x.start ∷ []) (omega arith))

links_one_more : (xs : List PlanLink) (x : PlanLink) → link_records (xs ++ x ∷ []) ≡ link_records xs ++ Link x.a x.b x.flag ∷ []
unfolding link_records
links_one_more [] x = refl
links_one_more (y ∷ ys) x = ap (λ l. Link y.a y.b y.flag ∷ l) (links_one_more ys x)

nodes_fit_more : (xs : List PlanNode) (x : PlanNode) → NodesFit xs → x.parent < 256 → x.start < 65536 → NodesFit (xs ++ x ∷ [])
unfolding NodesFit
nodes_fit_more [] x f h l = (h, l, tt)
nodes_fit_more (y ∷ ys) x f h l = (f.0, f.1, nodes_fit_more ys x f.2 h l)

no_links_fit : (count : ℕ) (xs : List PlanLink) → xs ≡ [] → LinksFit count xs
unfolding LinksFit
no_links_fit count xs e = rw e tt

links_fit_more : (count : ℕ) (xs : List PlanLink) (x : PlanLink) → LinksFit count xs → LinkFits count x → LinksFit count (xs ++ x ∷ [])
unfolding LinksFit
links_fit_more count [] x f h = (h, tt)
links_fit_more count (y ∷ ys) x f h = (f.0, links_fit_more count ys x f.1 h)

-- ---- a plan read in part

-- the numbers of a record are those of its bytes
abbrev pub Small : Record → Type 0
Small End = Unit {0}
Small (Rounds v) = Unit {0}
Small (Node number parent start) = (parent < 256) × (start < 65536)
Small (Link a b flag) = Unit {0}

pub record Begun (p : Plan) (rs : List Record) : Type 0 where
  -- the records are p's, in p's order
  pub records : rs ≡ records_of p
  -- rounds come first, and a node before any link
  pub rounds_first : p.rounds ≡ 0 → p.nodes ≡ []
  pub nodes_first : p.nodes ≡ [] → p.links ≡ []
  -- the limits and ranges of what has been read
  pub at_most_10000_rounds : p.rounds ≤ 10000
  pub at_most_64_nodes : length p.nodes ≤ 64
  pub at_most_128_links : length p.links ≤ 128
  pub nodes_fit : NodesFit p.nodes
  pub links_fit : LinksFit (length p.nodes) p.links
  pub links_rise : Rising p.links

pub nothing_read : Begun no_plan []
unfolding records_of rounds_records node_records link_records NodesFit LinksFit Rising
nothing_read =
    record {
      records = refl;
      rounds_first = λ _. refl;
      nodes_first = λ _. refl;
      at_most_10000_rounds = omega arith;
      at_most_64_nodes = omega arith;
      at_most_128_links = omega arith;
      nodes_fit = tt;
      links_fit = tt;
      links_rise = tt;
    }

-- the list of records with one more, for each kind
more_rounds_lem : (p : Plan) (v : ℕ) → p.rounds ≡ 0 → p.nodes ≡ [] → p.links ≡ [] → 0 < v → records_of p ++ Rounds v ∷ [] ≡ records_of (with p (Rounds v))
unfolding records_of node_records link_records rounds_records
more_rounds_lem p v e n l h = rw (e, n, l, some_rounds v h)

more_nodes : (p : Plan) (number parent start : ℕ) → p.links ≡ [] → number ≡ length p.nodes → records_of p ++ Node number parent start ∷ [] ≡ records_of (with p (Node number parent start))
unfolding records_of link_records
more_nodes p number parent start l e =
    let x : PlanNode = record { parent = parent; start = start } in
    let rounds = rounds_records p.rounds in
    let nodes = node_records 0 p.nodes in
    rw (l, append-nil, append-nil)
    (append_assoc rounds nodes (Node number parent start ∷ [])
    ∙ ap (λ n. rounds ++ (nodes ++ Node n parent start ∷ [])) (omega arith)
    ∙ ap (λ l. rounds ++ l) (sym (nodes_one_more 0 p.nodes x)))

more_links : (p : Plan) (a b flag : ℕ) → records_of p ++ Link a b flag ∷ [] ≡ records_of (with p (Link a b flag))
unfolding records_of
more_links p a b flag =
    let before = rounds_records p.rounds ++ node_records 0 p.nodes in
    append_assoc before (link_records p.links) (Link a b flag ∷ [])
    ∙ ap (λ l. before ++ l) (sym (links_one_more p.links (record { a = a; b = b; flag = flag })))

pub one_more_read : (p : Plan) (rs : List Record) (r : Record) → Begun p rs → closes_of r ≡ false → Keeps p r → Small r → Begun (with p r) (rs ++ r ∷ [])
one_more_read p rs End B c k s =
    let z : ◌≡◌ {A = ℕ} 0 1 = cc in
    absurd (omega arith)
one_more_read p rs (Rounds v) B c k s =
    let none = B.rounds_first k.0 in
    record {
      records = ap (λ l. l ++ Rounds v ∷ []) B.records ∙ more_rounds_lem p v k.0 none (B.nodes_first none) k.2.0;
      rounds_first = λ _. none;
      nodes_first = B.nodes_first;
      at_most_10000_rounds = k.2.1;
      at_most_64_nodes = B.at_most_64_nodes;
      at_most_128_links = B.at_most_128_links;
      nodes_fit = B.nodes_fit;
      links_fit = B.links_fit;
      links_rise = B.links_rise;
    }
one_more_read p rs (Node number parent start) B c k s =
    let x : PlanNode = record { parent = parent; start = start } in
    let none = k.0.1 in
    record {
      records = ap (λ l. l ++ Node number parent start ∷ []) B.records ∙ more_nodes p number parent start none k.0.2;
      rounds_first = λ e. absurd (omega (arith, k.0.0));
      nodes_first = λ _. none;
      at_most_10000_rounds = B.at_most_10000_rounds;
      at_most_64_nodes = omega (arith, length_more p.nodes x, k.1);
      at_most_128_links = B.at_most_128_links;
      nodes_fit = nodes_fit_more p.nodes x B.nodes_fit s.0 s.1;
      links_fit = no_links_fit (length (p.nodes ++ x ∷ [])) p.links none;
      links_rise = B.links_rise;
    }
one_more_read p rs (Link a b flag) B c k s =
    let x : PlanLink = record { a = a; b = b; flag = flag } in
    record {
      records = ap (λ l. l ++ Link a b flag ∷ []) B.records ∙ more_links p a b flag;
      rounds_first = B.rounds_first;
      nodes_first = λ e. absurd (omega (arith, k.0.0, ap length e));
      at_most_10000_rounds = B.at_most_10000_rounds;
      at_most_64_nodes = B.at_most_64_nodes;
      at_most_128_links = omega (arith, length_more p.links x, k.1);
      nodes_fit = B.nodes_fit;
      links_fit = links_fit_more (length p.nodes) p.links x B.links_fit k.2;
      links_rise = k.0.1;
    }

-- ---- a whole plan

-- kind 0 after some node: what was read keeps rules 1 to 5
pub ended_keeps : (p : Plan) (rs : List Record) → Begun p rs → 0 < length p.nodes → Keeps1to5 p
ended_keeps p rs B h =
    record {
      some_round = some_round p.rounds refl;
      at_most_10000_rounds = B.at_most_10000_rounds;
      some_node = h;
      at_most_64_nodes = B.at_most_64_nodes;
      at_most_128_links = B.at_most_128_links;
      nodes_fit = B.nodes_fit;
      links_fit = B.links_fit;
      links_rise = B.links_rise;
    }
  where
    some_round : (v : ℕ) → p.rounds ≡ v → 1 ≤ v
    some_round zero e = absurd (omega (arith, h, ap length (B.rounds_first e)))
    some_round (suc v) e = omega arith

nodes_written : (number : ℕ) (xs : List PlanNode) → records_bytes (node_records number xs) ≡ nodes_bytes number xs
unfolding records_bytes node_records nodes_bytes
nodes_written number [] = refl
nodes_written number (x ∷ xs) = ap (λ l. node_bytes number x ++ l) (nodes_written (suc number) xs)

links_written : (xs : List PlanLink) → records_bytes (link_records xs) ≡ links_bytes xs
unfolding records_bytes link_records links_bytes
links_written [] = refl
links_written (x ∷ xs) = ap (λ l. link_bytes x ++ l) (links_written xs)

-- the bytes of a plan are those of its records, and kind 0
pub plan_written : (p : Plan) → 0 < p.rounds → records_bytes (records_of p) ++ 0 ∷ [] ≡ bytes_of p
unfolding records_of bytes_of records_bytes
plan_written p h =
    ap (λ l. l ++ 0 ∷ [])
    (bytes_append (rounds_records p.rounds ++ node_records 0 p.nodes) (link_records p.links)
    ∙ ap₂ (λ x y. x ++ y)
    (bytes_append (rounds_records p.rounds) (node_records 0 p.nodes) ∙ ap₂ (λ x y. x ++ y) (ap records_bytes (some_rounds p.rounds h) ∙ append-nil (rounds_bytes p.rounds)) (nodes_written 0 p.nodes))
    (links_written p.links))

-- ---- the records of a plan keep the rules one after the other

plan_of : ℕ → List PlanNode → List PlanLink → Plan
plan_of v ns ls = record { rounds = v; nodes = ns; links = ls }

-- the nodes xs after the nodes `done`
nodes_keep : (v number : ℕ) (done xs : List PlanNode) → 0 < v → number ≡ length done → number + length xs ≤ 64 → EachKeeps (plan_of v done []) (node_records number xs)
unfolding plan_of EachKeeps node_records
nodes_keep v number done [] h e l = tt
nodes_keep v number done (x ∷ xs) h e l =
    (goes_not_end _ refl, ((h, refl, e), omega arith, tt), nodes_keep v (suc number) (done ++ x ∷ []) xs h (omega (arith, length_more done x)) (omega arith))

nodes_add_up : (v number : ℕ) (done xs : List PlanNode) → with_all (plan_of v done []) (node_records number xs) ≡ plan_of v (done ++ xs) []
unfolding plan_of with_all node_records
nodes_add_up v number done [] = ap (λ ns. plan_of v ns []) (sym (append-nil done))
nodes_add_up v number done (x ∷ xs) =
    nodes_add_up v (suc number) (done ++ x ∷ []) xs ∙ ap (λ ns. plan_of v ns []) (append_assoc done (x ∷ []) xs)

rising_from_front : (x : PlanLink) (xs ys : List PlanLink) → RisingFrom x (xs ++ ys) → RisingFrom x xs
unfolding RisingFrom
rising_from_front x [] ys r = tt
rising_from_front x (z ∷ zs) ys r = (r.0, rising_from_front z zs ys r.1)

rising_front : (xs ys : List PlanLink) → Rising (xs ++ ys) → Rising xs
unfolding Rising
rising_front [] ys r = tt
rising_front (x ∷ xs) ys r = rising_from_front x xs ys r

-- the links xs after the links `done`
links_keep : (v : ℕ) (ns : List PlanNode) (done xs : List PlanLink) → 0 < length ns → length done + length xs ≤ 128 → LinksFit (length ns) xs → Rising (done ++ xs) → EachKeeps (plan_of v ns done) (link_records xs)
unfolding plan_of EachKeeps link_records LinksFit
links_keep v ns done [] h l f r = tt
links_keep v ns done (x ∷ xs) h l f r =
    let r' : Rising (done ++ x ∷ [] ++ xs) = rw append_assoc r in
    (goes_not_end _ refl, ((h, rising_front (done ++ x ∷ []) xs r'), omega arith, f.0), links_keep v ns (done ++ x ∷ []) xs h (omega (arith, length_more done x)) f.1 r')

links_add_up : (v : ℕ) (ns : List PlanNode) (done xs : List PlanLink) → with_all (plan_of v ns done) (link_records xs) ≡ plan_of v ns (done ++ xs)
unfolding plan_of with_all link_records
links_add_up v ns done [] = ap (plan_of v ns) (sym (append-nil done))
links_add_up v ns done (x ∷ xs) = links_add_up v ns (done ++ x ∷ []) xs ∙ ap (plan_of v ns) (append_assoc done (x ∷ []) xs)

module _ (p : Plan) (K : Keeps1to5 p) where
  rounds_and_nodes : with_all no_plan (rounds_records p.rounds ++ node_records 0 p.nodes) ≡ plan_of p.rounds p.nodes []
  unfolding with_all plan_of
  rounds_and_nodes =
      ap (λ l. with_all no_plan (l ++ node_records 0 p.nodes)) (some_rounds p.rounds K.some_round)
      ∙ nodes_add_up p.rounds 0 [] p.nodes

  pub records_add_up : with_all no_plan (records_of p) ≡ p
  unfolding records_of plan_of
  records_add_up =
      with_all_append no_plan (rounds_records p.rounds ++ node_records 0 p.nodes) (link_records p.links)
      ∙ ap (λ q. with_all q (link_records p.links)) rounds_and_nodes
      ∙ links_add_up p.rounds p.nodes [] p.links

  pub records_keep : EachKeeps no_plan (records_of p)
  unfolding records_of EachKeeps plan_of
  records_keep =
      each_append no_plan (rounds_records p.rounds ++ node_records 0 p.nodes) (link_records p.links) front
      (subst (λ q. EachKeeps q (link_records p.links)) (sym rounds_and_nodes) (links_keep p.rounds p.nodes [] p.links K.some_node (omega (arith, K.at_most_128_links)) K.links_fit K.links_rise))
    where
      front : EachKeeps no_plan (rounds_records p.rounds ++ node_records 0 p.nodes)
      front =
          rw (some_rounds p.rounds K.some_round)
          (goes_not_end _ refl, (refl, tt, (K.some_round, K.at_most_10000_rounds)), nodes_keep p.rounds 0 [] p.nodes K.some_round refl (omega (arith, K.at_most_64_nodes)))

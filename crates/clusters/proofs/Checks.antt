-- Checks 8 and 9 answer the first breach of their rules, and both find none exactly if "A preferred link joins two clusters. For each two clusters
-- with any link between them, exactly one of these links is preferred."
-- Assumes nothing.
use Prim.Native.Nat.{ℕ, ◌<◌}
use mathlib.Core.Path.{◌≡◌, refl, sym, ◌∙◌, ap₂, subst}
use mathlib.Core.Logic.{◌↔◌}
use mathlib.Core.Bool.{Bool, true, false, not}
use lib.ListN.{get_or}
use lib.Dec.{eqb}
use borrow.Author.Tests.{lt-ltb, ltb-true, eq-eqb, eqb-true, eqb-false, not-true, not-false}
use Rattle.laws.proofs.Choice.{eq_elim, both_yes, both_left, both_right, true_not_false}
use Rattle.network.specs.declared.Network.{Network}
use Rattle.links.specs.Links.{links_of, joins, straight, crossed}
use Rattle.links.specs.Breach.{Breach}
use Rattle.links.proofs.Breach.{first_is_breach, none_exactly}
use Rattle.links.proofs.Links.{joins_pair, pair_joins, pair_sym, pair_of}
use Rattle.links.proofs.Count.{one_counted, count_of_one}
use Rattle.clusters.specs.Clusters.{root_table, preferred, cluster_at, inside, first_inside, chosen, preferred_between, not_one, first_not_one, cluster_of, Preferred, Between, OnePreferred, JoinsTwo, PairHasOne, WellPreferred}
use Rattle.clusters.proofs.Roots.{table_holds}

module _ (net : Network) where
  -- the clusters at the two ends of link l, by the table and by the rule
  abbrev lower_at : ℕ → ℕ
  lower_at l = cluster_at (root_table net) net.lowers l

  abbrev upper_at : ℕ → ℕ
  upper_at l = cluster_at (root_table net) net.uppers l

  abbrev lower : ℕ → ℕ
  lower l = cluster_of net (get_or net.lowers l 0)

  abbrev upper : ℕ → ℕ
  upper l = cluster_of net (get_or net.uppers l 0)

  lower_is : (l : ℕ) → lower_at l ≡ lower l
  lower_is l = table_holds net (get_or net.lowers l 0)

  upper_is : (l : ℕ) → upper_at l ≡ upper l
  upper_is l = table_holds net (get_or net.uppers l 0)

  flag : ℕ → ℕ
  flag l = get_or net.flags l 0

  -- ---- 8

  abbrev inside_at : ℕ → Bool
  inside_at = inside (root_table net) net.lowers net.uppers net.flags

  -- 8 answers the first breach of "A preferred link joins two clusters"
  pub inside_is_breach : Breach (JoinsTwo net) (links_of net) (first_inside net)
  unfolding first_inside inside JoinsTwo flag
  inside_is_breach = first_is_breach inside_at (JoinsTwo net) (links_of net) (λ l _. keeps l) (λ l _. breaks l)
    where
      one_cluster : ℕ → Bool
      one_cluster l = eqb (lower_at l) (upper_at l)

      keeps : (l : ℕ) → inside_at l ≡ false → JoinsTwo net l
      keeps l e p q =
          let one : one_cluster l ≡ true = eq-eqb (lower_at l) (upper_at l) (lower_is l ∙ q ∙ sym (upper_is l)) in
          true_not_false (inside_at l) (both_yes (preferred net.flags l) (one_cluster l) (lt-ltb 0 (flag l) p) one) e

      breaks : (l : ℕ) → inside_at l ≡ true → JoinsTwo net l → ⊥
      breaks l e two =
          let one : lower_at l ≡ upper_at l = eqb-true (lower_at l) (upper_at l) (both_right (preferred net.flags l) (one_cluster l) e) in
          two (ltb-true 0 (flag l) (both_left (preferred net.flags l) (one_cluster l) e)) (sym (lower_is l) ∙ one ∙ upper_is l)

  -- ---- 9

  abbrev chosen_at : ℕ → ℕ → ℕ → Bool
  chosen_at l x y = chosen (root_table net) net.lowers net.uppers net.flags l x y

  module _ (l x y : ℕ) where
    abbrev joined : Bool
    joined = joins (lower_at l) (upper_at l) x y

    chosen_preferred : chosen_at l x y ≡ true → Preferred net l
    unfolding chosen flag
    chosen_preferred e = ltb-true 0 (flag l) (both_left (preferred net.flags l) joined e)

    chosen_between : chosen_at l x y ≡ true → Between net l x y
    unfolding chosen
    chosen_between e =
        pair_of (sym (lower_is l)) (sym (upper_is l)) (joins_pair (lower_at l) (upper_at l) x y (both_right (preferred net.flags l) joined e))

    preferred_chosen : Preferred net l → Between net l x y → chosen_at l x y ≡ true
    unfolding chosen flag
    preferred_chosen p b =
        both_yes (preferred net.flags l) joined (lt-ltb 0 (flag l) p) (pair_joins (lower_at l) (upper_at l) x y (pair_of (lower_is l) (upper_is l) b))

  abbrev count_of : ℕ → ℕ → ℕ
  count_of x y = preferred_between (root_table net) net.lowers net.uppers net.flags (links_of net) x y

  -- a count of 1 is exactly one preferred link between the two
  one_exactly : (x y : ℕ) → (count_of x y ≡ 1) ↔ OnePreferred net x y
  unfolding preferred_between
  one_exactly x y = (one, counted)
    where
      one : count_of x y ≡ 1 → OnePreferred net x y
      one e =
          let found = one_counted (λ l. chosen_at l x y) (links_of net) e in
          record {
            link = found.0;
            below = found.1;
            preferred_link = chosen_preferred found.0 x y found.2;
            between_them = chosen_between found.0 x y found.2;
            only = λ k h p b. found.3 k h (preferred_chosen k x y p b);
          }

      counted : OnePreferred net x y → count_of x y ≡ 1
      counted o =
          count_of_one (λ l. chosen_at l x y) (links_of net) o.link o.below (preferred_chosen o.link x y o.preferred_link o.between_them)
          (λ k h e. o.only k h (chosen_preferred k x y e) (chosen_between k x y e))

  abbrev not_one_of : ℕ → ℕ → Bool
  not_one_of x y = not_one (root_table net) net.lowers net.uppers net.flags (links_of net) x y

  one_kept : (x y : ℕ) → not_one_of x y ≡ false → (x ≡ y → ⊥) → OnePreferred net x y
  unfolding not_one
  one_kept x y =
      eq_elim (λ t. t ≡ false → (x ≡ y → ⊥) → OnePreferred net x y) x y false (not (eqb (count_of x y) 1)) (λ e _ d. absurd (d e))
      (λ _ e _. (one_exactly x y).0 (eqb-true (count_of x y) 1 (not-false (eqb (count_of x y) 1) e)))

  one_broken : (x y : ℕ) → not_one_of x y ≡ true → ((x ≡ y → ⊥) → OnePreferred net x y) → ⊥
  unfolding not_one
  one_broken x y =
      eq_elim (λ t. t ≡ true → ((x ≡ y → ⊥) → OnePreferred net x y) → ⊥) x y false (not (eqb (count_of x y) 1)) (λ _ e _. true_not_false false e refl)
      (λ d e one. eqb-false (count_of x y) 1 (not-true (eqb (count_of x y) 1) e) ((one_exactly x y).1 (one d)))

  -- 9 answers the first breach of the rule of a pair
  pub not_one_is_breach : Breach (PairHasOne net) (links_of net) (first_not_one net)
  unfolding first_not_one PairHasOne
  not_one_is_breach =
      first_is_breach (λ l. not_one_of (lower_at l) (upper_at l)) (PairHasOne net) (links_of net)
      (λ l _ e. one_kept (lower l) (upper l) (sym (by_rule l) ∙ e))
      (λ l _ e. one_broken (lower l) (upper l) (sym (by_rule l) ∙ e))
    where
      by_rule : (l : ℕ) → not_one_of (lower_at l) (upper_at l) ≡ not_one_of (lower l) (upper l)
      by_rule l = ap₂ not_one_of (lower_is l) (upper_is l)

  -- ---- both

  one_sym : {x y : ℕ} → OnePreferred net x y → OnePreferred net y x
  one_sym o =
      record {
        link = o.link;
        below = o.below;
        preferred_link = o.preferred_link;
        between_them = pair_sym o.between_them;
        only = λ k h p b. o.only k h p (pair_sym b);
      }

  -- neither applies exactly if the preferred links are as document 01 wants them
  pub well_preferred_exactly : ((first_inside net ≡ links_of net) × (first_not_one net ≡ links_of net)) ↔ WellPreferred net
  unfolding JoinsTwo PairHasOne
  well_preferred_exactly = (well, none)
    where
      one : ((l : ℕ) → l < links_of net → PairHasOne net l) → (x y l : ℕ) → (x ≡ y → ⊥) → l < links_of net → Between net l x y → OnePreferred net x y
      one rule x y l d h (straight e f) =
          subst (λ a. OnePreferred net a y) e (subst (OnePreferred net (lower l)) f (rule l h (λ q. d (sym e ∙ q ∙ f))))
      one rule x y l d h (crossed e f) =
          one_sym (subst (λ a. OnePreferred net a x) e (subst (OnePreferred net (lower l)) f (rule l h (λ q. d (sym f ∙ sym q ∙ e)))))

      well : (first_inside net ≡ links_of net) × (first_not_one net ≡ links_of net) → WellPreferred net
      well found =
          record { joins_two = (none_exactly inside_is_breach).0 found.0; exactly_one = one ((none_exactly not_one_is_breach).0 found.1) }

      none : WellPreferred net → (first_inside net ≡ links_of net) × (first_not_one net ≡ links_of net)
      none w = ((none_exactly inside_is_breach).1 w.joins_two, (none_exactly not_one_is_breach).1 (λ l h d. w.exactly_one (lower l) (upper l) l d h (straight refl refl)))

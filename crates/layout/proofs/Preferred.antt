-- Flags that mark the first link between each two clusters keep rules 8 and 9: a marked link joins two clusters; and of the links between the same
-- two clusters the first is marked, and no later one.
-- Assumes nothing.
use Prim.Native.Nat.{ℕ, ◌<◌}
use native.Mathlib.Omega.{arith}
use native.Mathlib.Decide.{ℕ_discrete}
use mathlib.Core.Path.{◌≡◌, refl, sym, ◌∙◌}
use mathlib.Core.Logic.{◌↔◌}
use mathlib.Core.Bool.{Bool}
use lib.ListN.{get_or}
use Rattle.laws.specs.Choice.{if_lt}
use Rattle.laws.specs.Below.{first_of}
use Rattle.laws.proofs.Choice.{if_eq_no, if_lt_no, eq_elim, lt_elim, not_true_false, true_not_false}
use Rattle.laws.proofs.Below.{first_none, first_passes, first_below}
use Rattle.network.specs.declared.Network.{Network}
use Rattle.links.specs.Links.{links_of, joins, SamePair, straight, crossed}
use Rattle.links.proofs.Links.{joins_pair, pair_joins}
use Rattle.links.proofs.Breach.{none_exactly}
use Rattle.clusters.specs.Clusters.{cluster_of, Preferred, Between, JoinsTwo, PairHasOne, WellPreferred}
use Rattle.clusters.proofs.Checks.{inside_is_breach, not_one_is_breach, well_preferred_exactly}
use Rattle.layout.specs.FirstLinks.{first_flag, FirstBetween, FirstLinks}

pair_turn : {a b x y : ℕ} → SamePair a b x y → SamePair x y a b
pair_turn (straight e f) = straight (sym e) (sym f)
pair_turn (crossed e f) = crossed (sym f) (sym e)

pair_trans : {a b c d x y : ℕ} → SamePair a b c d → SamePair c d x y → SamePair a b x y
pair_trans (straight e f) (straight g h) = straight (e ∙ g) (f ∙ h)
pair_trans (straight e f) (crossed g h) = crossed (e ∙ g) (f ∙ h)
pair_trans (crossed e f) (straight g h) = crossed (e ∙ h) (f ∙ g)
pair_trans (crossed e f) (crossed g h) = straight (e ∙ h) (f ∙ g)

-- two that are not the same, paired anew, are not the same
pub pair_apart : {a b x y : ℕ} → SamePair a b x y → (x ≡ y → ⊥) → a ≡ b → ⊥
pair_apart (straight e f) d q = d (sym e ∙ q ∙ f)
pair_apart (crossed e f) d q = d (sym f ∙ sym q ∙ e)

-- ---- the flags that are computed, and those that are told

-- a link's flag, by the clusters of a network
abbrev pub first_flag_in : Network → ℕ → ℕ
first_flag_in net = first_flag (λ k. cluster_of net (get_or net.lowers k 0)) (λ k. cluster_of net (get_or net.uppers k 0))

module _ (net : Network) where
  abbrev lower : ℕ → ℕ
  lower l = cluster_of net (get_or net.lowers l 0)

  abbrev upper : ℕ → ℕ
  upper l = cluster_of net (get_or net.uppers l 0)

  module _ (l : ℕ) where
    abbrev like : ℕ → Bool
    like k = joins (lower k) (upper k) (lower l) (upper l)

    flag_first : first_flag lower upper l ≡ 1 → FirstBetween net l
    unfolding first_flag
    flag_first =
        eq_elim (λ z. z ≡ 1 → FirstBetween net l) (lower l) (upper l) 0 (if_lt (first_of like l) l 0 1) (λ _ e. absurd (omega arith))
        (λ two. lt_elim (λ z. z ≡ 1 → FirstBetween net l) (first_of like l) l 0 1 (λ _ e. absurd (omega arith))
        (λ h _. record { two = two; first = λ k b p. true_not_false (like k) (pair_joins (lower k) (upper k) (lower l) (upper l) p) (first_below like l k (omega arith)) }))

    first_flag_lem : FirstBetween net l → first_flag lower upper l ≡ 1
    unfolding first_flag
    first_flag_lem f =
        if_eq_no (lower l) (upper l) 0 (if_lt (first_of like l) l 0 1) f.two
        ∙ if_lt_no (first_of like l) l 0 1 (omega (arith, first_none like l (λ k b. not_true_false (like k) (λ e. f.first k b (joins_pair (lower k) (upper k) (lower l) (upper l) e)))))

    flag_else : (first_flag lower upper l ≡ 1 → ⊥) → first_flag lower upper l ≡ 0
    unfolding first_flag
    flag_else =
        eq_elim (λ z. (z ≡ 1 → ⊥) → z ≡ 0) (lower l) (upper l) 0 (if_lt (first_of like l) l 0 1) (λ _ _. refl)
        (λ _. lt_elim (λ z. (z ≡ 1 → ⊥) → z ≡ 0) (first_of like l) l 0 1 (λ _ _. refl) (λ _ a. absurd (a refl)))

  pub first_links_exactly : FirstLinks net ↔ ((l : ℕ) → l < links_of net → get_or net.flags l 0 ≡ first_flag_in net l)
  first_links_exactly = (computed, told)
    where
      computed : FirstLinks net → (l : ℕ) → l < links_of net → get_or net.flags l 0 ≡ first_flag lower upper l
      computed f l h = at (ℕ_discrete (get_or net.flags l 0) 1)
        where
          at : Dec (get_or net.flags l 0 ≡ 1) → get_or net.flags l 0 ≡ first_flag lower upper l
          at (yes e) = e ∙ sym (first_flag_lem l ((f.one l h).0 e))
          at (no d) = f.else_zero l h d ∙ sym (flag_else l (λ e. d ((f.one l h).1 (flag_first l e))))

      told : ((l : ℕ) → l < links_of net → get_or net.flags l 0 ≡ first_flag lower upper l) → FirstLinks net
      told e =
          record { one = λ l h. (λ q. flag_first l (sym (e l h) ∙ q), λ f. e l h ∙ first_flag_lem l f); else_zero = λ l h d. e l h ∙ flag_else l (λ q. d (e l h ∙ q)) }

-- ---- rules 8 and 9

module _ (net : Network) (firsts : FirstLinks net) where
  -- a link is preferred exactly if it is the first between its two clusters
  preferred_first : (l : ℕ) → l < links_of net → Preferred net l → FirstBetween net l
  preferred_first l h p = at (ℕ_discrete (get_or net.flags l 0) 1)
    where
      at : Dec (get_or net.flags l 0 ≡ 1) → FirstBetween net l
      at (yes e) = (firsts.one l h).0 e
      at (no d) = absurd (omega (arith, firsts.else_zero l h d))

  first_preferred : (l : ℕ) → l < links_of net → FirstBetween net l → Preferred net l
  first_preferred l h f = omega (arith, (firsts.one l h).1 f)

  -- 8: no preferred link inside a cluster
  pub joins_two : (l : ℕ) → l < links_of net → JoinsTwo net l
  unfolding JoinsTwo
  joins_two l h p = (preferred_first l h p).two

  -- ---- 9

  module _ (l : ℕ) (h : l < links_of net) (apart : lower net l ≡ upper net l → ⊥) where
    abbrev Like : ℕ → Type 0
    Like k = Between net k (lower net l) (upper net l)

    -- the first link between the two clusters of l
    abbrev first : ℕ
    first = first_of (like net l) (links_of net)

    none_before : (k : ℕ) → k < first → Like k → ⊥
    none_before k b p = true_not_false (like net l k) (pair_joins (lower net k) (upper net k) (lower net l) (upper net l) p) (first_below (like net l) (links_of net) k b)

    first_there : first < links_of net
    first_there =
        let past : l < first → ⊥ = λ b. none_before l b (straight refl refl) in
        omega arith

    first_like : Like first
    first_like = joins_pair (lower net first) (upper net first) (lower net l) (upper net l) (first_passes (like net l) (links_of net) first_there)

    first_is_first : FirstBetween net first
    first_is_first =
        record { two = pair_apart first_like apart; first = λ k b p. none_before k b (pair_trans p first_like) }

    only_first : (k : ℕ) → k < links_of net → Preferred net k → Like k → k ≡ first
    only_first k b p q =
        let later : first < k → ⊥ = λ a. (preferred_first k b p).first first a (pair_trans first_like (pair_turn q)) in
        let earlier : k < first → ⊥ = λ a. none_before k a q in
        omega arith

  -- 9: "For each two clusters with any link between them, exactly one of these links is preferred."
  pub pair_has_one : (l : ℕ) → l < links_of net → PairHasOne net l
  unfolding PairHasOne
  pair_has_one l h apart =
      record {
        link = first l h apart;
        below = first_there l h apart;
        preferred_link = first_preferred (first l h apart) (first_there l h apart) (first_is_first l h apart);
        between_them = first_like l h apart;
        only = only_first l h apart;
      }

  -- both, as document 01 says them
  pub well_preferred : WellPreferred net
  well_preferred = (well_preferred_exactly net).0 ((none_exactly (inside_is_breach net)).1 joins_two, (none_exactly (not_one_is_breach net)).1 pair_has_one)

-- The five walks one after the other. Each answers the first breach of its rule, so the walks together answer the first rule that is broken and
-- where, or that all are kept; and these are the only answers.
-- Assumes nothing.
use Prim.Native.Nat.{ℕ, ◌<◌, ◌≤◌}
use native.Mathlib.Omega.{arith}
use native.Mathlib.Decide.{dec_lt}
use mathlib.Core.Path.{◌≡◌, refl, sym, ◌∙◌, ap}
use Rattle.std.specs.Prelude.{Option, Result, Ok, Err, ⊤}
use Rattle.laws.proofs.Choice.{lt_elim}
use Rattle.answers.specs.declared.Refusal.{Refusal}
use Rattle.answers.specs.declared.Refused.{Refused}
use Rattle.answers.specs.Numbers.{number_of, none_at}
use Rattle.network.specs.declared.Network.{Network}
use Rattle.network.specs.Zeros.{zero_network}
use Rattle.records.specs.Planned.{Planned, handed_of}
use Rattle.records.specs.Numbers.{accepted}
use Rattle.records.specs.Reader.{answered, refused_with, accepted_with}
use Rattle.links.specs.Breach.{Breach, place_in}
use Rattle.links.specs.Links.{nodes_of, links_of}
use Rattle.links.proofs.Breach.{breach_unique, place_yes, place_no}
use Rattle.tree.specs.Checks.{Tied, EndsAtRoot, first_lost}
use Rattle.tree.proofs.Checks.{untied_is_breach, lost_is_breach}
use Rattle.clusters.specs.Clusters.{JoinsTwo, PairHasOne, first_inside, first_not_one}
use Rattle.clusters.proofs.Checks.{inside_is_breach, not_one_is_breach}
use Rattle.joined.specs.Joined.{JoinedIn, first_unjoined}
use Rattle.joined.proofs.Checks.{unjoined_is_breach}
use Rattle.plan.specs.Numbers.{untied, lost, inside, not_one, unjoined}
use Rattle.plan.specs.Checks.{unless_below, checks_of}
use Rattle.plan.specs.Accepted.{Every, FirstBroken, Keeps6to10, Breaks6to10, by_6, by_7, by_8, by_9, by_10}

-- ---- one walk

module _ (Rule : ℕ → Type 0) (n first : ℕ) (B : Breach Rule n first) (number : ℕ) (rest : Planned) where
  walk_cases : (P : Planned → Type 0) → (FirstBroken Rule n first → P (refused_with number first)) → (Every Rule n → P rest) → P (unless_below first n number rest)
  walk_cases P b k =
      lt_elim P first n (refused_with number first) rest (λ l. b (record { below = l; broken = B.broken l; kept_before = B.kept_before }))
      (λ l. k (λ j h. B.kept_before j (omega arith)))

  -- a rule that is kept lets the walk through
  kept_passes : Every Rule n → unless_below first n number rest ≡ rest
  kept_passes k = walk_cases (λ x. x ≡ rest) (λ b. absurd (b.broken (k first b.below))) (λ _. refl)

  -- a rule that is broken stops it, at the first place
  broken_stops : (w : ℕ) → FirstBroken Rule n w → unless_below first n number rest ≡ refused_with number w
  broken_stops w F =
      walk_cases (λ x. x ≡ refused_with number w) (λ _. ap (refused_with number) (breach_unique B found)) (λ k. absurd (F.broken (k w F.below)))
    where
      found : Breach Rule n w
      found = record { within = omega (arith, F.below); broken = λ _. F.broken; kept_before = F.kept_before }

-- ---- one walk, as the code hands it on

module _ (first n : ℕ) (refusal : Refusal) (f : Option ℕ) (r : Result ⊤ Refused) (walk : f ≡ place_in n first) (found : r ≡ none_at f refusal) where
  -- there is a first place, and it is the one refused; or there is none
  at_first : first < n → r ≡ Err (record { refusal = refusal; place = first })
  at_first l = found ∙ ap (λ o. none_at o refusal) (walk ∙ place_yes n first l)

  nowhere : n ≤ first → r ≡ Ok tt
  nowhere l = found ∙ ap (λ o. none_at o refusal) (walk ∙ place_no n first l)

  pub one_found : (e : Refused) → r ≡ Err e → (first < n) × (e ≡ record { refusal = refusal; place = first })
  one_found e q = at (dec_lt first n)
    where
      at : Dec (first < n) → (first < n) × (e ≡ record { refusal = refusal; place = first })
      at (yes l) =
          let p = at_first l in
          let d : e ≡ record { refusal = refusal; place = first } = cc in
          (l, d)
      at (no l) =
          let p = nowhere (omega arith) in
          absurd (cc)

  pub none_found : (u : ⊤) → r ≡ Ok u → n ≤ first
  none_found u q = at (dec_lt first n)
    where
      at : Dec (first < n) → n ≤ first
      at (yes l) =
          let p = at_first l in
          absurd (cc)
      at (no l) = omega arith

  module _ (rest : Planned) where
    none_cases : (P : Planned → Type 0) → (r ≡ Err (record { refusal = refusal; place = first }) → P (refused_with (number_of refusal) first)) → (r ≡ Ok tt → P rest) → P (unless_below first n (number_of refusal) rest)
    none_cases P b k =
        lt_elim P first n (refused_with (number_of refusal) first) rest (λ l. b (at_first l)) (λ l. k (nowhere l))

    -- refused, the walk's answer is what all of them come to, beside the zeros that stand in what was lent
    pub walk_stops : (e : Refused) (lent : Network) → r ≡ Err e → lent ≡ zero_network → handed_of (Err e) lent ≡ unless_below first n (number_of refusal) rest
    walk_stops e lent q zeros =
        ap (answered _ e.place) zeros
        ∙ none_cases (λ x. refused_with (number_of e.refusal) e.place ≡ x)
        (λ p. let d : e ≡ record { refusal = refusal; place = first } = cc in ap (λ x. refused_with (number_of x.refusal) x.place) d)
        (λ p. cc)

    -- else what is left to answer is
    pub walk_passes : (u : ⊤) → r ≡ Ok u → rest ≡ unless_below first n (number_of refusal) rest
    walk_passes u q = none_cases (λ x. rest ≡ x) (λ p. cc) (λ p. refl)

-- ---- all five

module _ (net : Network) (n : ℕ) where
  -- what is left to answer after a check is passed
  abbrev after_9 : Planned
  after_9 = unless_below (first_unjoined net) (nodes_of net) unjoined (accepted_with n net)

  abbrev after_8 : Planned
  after_8 = unless_below (first_not_one net) (links_of net) not_one after_9

  abbrev after_7 : Planned
  after_7 = unless_below (first_inside net) (links_of net) inside after_8

  abbrev after_6 : Planned
  after_6 = unless_below (first_lost net) (nodes_of net) lost after_7

  pub checks_cases : (P : Planned → Type 0) → ((k w : ℕ) → Breaks6to10 net k w → P (refused_with k w)) → (Keeps6to10 net → P (accepted_with n net)) → P (checks_of net n)
  unfolding checks_of
  checks_cases P b k =
      walk_cases (Tied net) _ _ (untied_is_breach net) untied after_6 P (λ f. b untied _ (by_6 refl f))
      (λ k6. walk_cases (EndsAtRoot net) _ _ (lost_is_breach net) lost after_7 P (λ f. b lost _ (by_7 refl k6 f))
      (λ k7. walk_cases (JoinsTwo net) _ _ (inside_is_breach net) inside after_8 P (λ f. b inside _ (by_8 refl k6 k7 f))
      (λ k8. walk_cases (PairHasOne net) _ _ (not_one_is_breach net) not_one after_9 P (λ f. b not_one _ (by_9 refl k6 k7 k8 f))
      (λ k9. walk_cases (JoinedIn net) _ _ (unjoined_is_breach net) unjoined (accepted_with n net) P (λ f. b unjoined _ (by_10 refl k6 k7 k8 k9 f))
      (λ k10. k (record { tied = k6; rooted = k7; joins_two = k8; pair_has_one = k9; joined = k10 }))))))

  pass_6 : Every (Tied net) (nodes_of net) → checks_of net n ≡ after_6
  unfolding checks_of
  pass_6 = kept_passes (Tied net) _ _ (untied_is_breach net) untied after_6

  pass_7 : Every (EndsAtRoot net) (nodes_of net) → after_6 ≡ after_7
  pass_7 = kept_passes (EndsAtRoot net) _ _ (lost_is_breach net) lost after_7

  pass_8 : Every (JoinsTwo net) (links_of net) → after_7 ≡ after_8
  pass_8 = kept_passes (JoinsTwo net) _ _ (inside_is_breach net) inside after_8

  pass_9 : Every (PairHasOne net) (links_of net) → after_8 ≡ after_9
  pass_9 = kept_passes (PairHasOne net) _ _ (not_one_is_breach net) not_one after_9

  pub kept_is_accepted : Keeps6to10 net → checks_of net n ≡ accepted_with n net
  kept_is_accepted K =
      pass_6 K.tied
      ∙ pass_7 K.rooted
      ∙ pass_8 K.joins_two
      ∙ pass_9 K.pair_has_one
      ∙ kept_passes (JoinedIn net) _ _ (unjoined_is_breach net) unjoined (accepted_with n net) K.joined

  pub broken_is_refused : (k w : ℕ) → Breaks6to10 net k w → checks_of net n ≡ refused_with k w
  unfolding checks_of
  broken_is_refused k w (by_6 e f) =
      broken_stops (Tied net) _ _ (untied_is_breach net) untied after_6 w f ∙ ap (λ x. refused_with x w) (sym e)
  broken_is_refused k w (by_7 e k6 f) =
      pass_6 k6 ∙ broken_stops (EndsAtRoot net) _ _ (lost_is_breach net) lost after_7 w f ∙ ap (λ x. refused_with x w) (sym e)
  broken_is_refused k w (by_8 e k6 k7 f) =
      pass_6 k6
      ∙ pass_7 k7
      ∙ broken_stops (JoinsTwo net) _ _ (inside_is_breach net) inside after_8 w f
      ∙ ap (λ x. refused_with x w) (sym e)
  broken_is_refused k w (by_9 e k6 k7 k8 f) =
      pass_6 k6
      ∙ pass_7 k7
      ∙ pass_8 k8
      ∙ broken_stops (PairHasOne net) _ _ (not_one_is_breach net) not_one after_9 w f
      ∙ ap (λ x. refused_with x w) (sym e)
  broken_is_refused k w (by_10 e k6 k7 k8 k9 f) =
      pass_6 k6
      ∙ pass_7 k7
      ∙ pass_8 k8
      ∙ pass_9 k9
      ∙ broken_stops (JoinedIn net) _ _ (unjoined_is_breach net) unjoined (accepted_with n net) w f
      ∙ ap (λ x. refused_with x w) (sym e)

pub broken_is_no_0 : {net : Network} {k w : ℕ} → Breaks6to10 net k w → k ≡ accepted → ⊥
broken_is_no_0 (by_6 e _) z = omega arith
broken_is_no_0 (by_7 e _ _) z = omega arith
broken_is_no_0 (by_8 e _ _ _) z = omega arith
broken_is_no_0 (by_9 e _ _ _ _) z = omega arith
broken_is_no_0 (by_10 e _ _ _ _ _) z = omega arith

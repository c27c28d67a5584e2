-- Arcs that have no earlier one of their state and operator. Assumes nothing.
use Rattle.std.proofs.Common.{◌≡◌, ℕ, ◌<◌, true, false, not, eqb, List, length, get_or, take, is_some, Some, None, Option, sym, refl, ap, ◌∙◌, subst, ⊎_elim, arith}
use Rattle.std.specs.Option.{option_eq}
use Rattle.std.proofs.lemmas.List.{get_or-take, length-take-le}
use Rattle.std.proofs.lemmas.Bool.{cases_lt, cases_order, eq-eqb, ne_eqb, both_ways}
use Rattle.chart.specs.declared.tables.Arc.{Arc}
use Rattle.chart.specs.Faults.{new_arc, no_arc}
use Rattle.chart.specs.Index.{NextArc}
use Rattle.chart.specs.Tables.{leads, target}
use Rattle.chart.proofs.Entries.{both_lead}
use Rattle.chart.proofs.Targets.{target_none, target_first, none_leads}

module _ (arcs : List Arc) (i : ℕ) (l : i < length arcs) where
  abbrev s : ℕ
  s = (get_or arcs i no_arc).from

  abbrev o : ℕ
  o = (get_or arcs i no_arc).operator

  itself : leads (get_or arcs i no_arc) s o ≡ true
  itself = both_lead (get_or arcs i no_arc) s o refl refl

  some_target : target arcs s o ≡ None → ⊥
  some_target e = both_ways (leads (get_or arcs i no_arc) s o) (none_leads s o arcs e i l) itself

  front : (k : ℕ) → k < i → get_or (take i arcs) k no_arc ≡ get_or arcs k no_arc
  front k h = get_or-take i arcs k no_arc h

  pub new_never : NextArc arcs s o None → false ≡ new_arc arcs i
  new_never n = absurd (some_target (n o (omega arith)))

  module _ (j : ℕ) (n : NextArc arcs s o (Some j)) where
    same_operator : (get_or arcs j no_arc).operator ≡ o
    same_operator = ⊎_elim (λ m. absurd (some_target (n.4 o (omega arith) m))) (λ m. omega (arith, n.2)) (cases_lt o (get_or arcs j no_arc).operator)

    none_earlier : (k : ℕ) → k < j → leads (get_or arcs k no_arc) s o ≡ false
    none_earlier k h = subst (λ p. leads (get_or arcs k no_arc) s p ≡ false) same_operator (n.3 k h)

    at_first : j ≡ i → eqb j i ≡ new_arc arcs i
    at_first e =
        eq-eqb j i e
        ∙ sym (ap (λ t. not (is_some t)) (target_none s o (take i arcs) (λ k h. let m : k < i = omega (arith, length-take-le i arcs (omega arith)) in ap (λ a. leads a s o) (front k m) ∙ none_earlier k (omega arith))))

    after_first : j < i → eqb j i ≡ new_arc arcs i
    after_first h =
        ne_eqb j i (λ e. omega arith)
        ∙ sym (ap (λ t. not (is_some t)) (target_first s o (take i arcs) j (omega (arith, length-take-le i arcs (omega arith))) (ap (λ a. leads a s o) (front j h) ∙ both_lead (get_or arcs j no_arc) s o n.1 same_operator) (λ k m. ap (λ a. leads a s o) (front k (omega arith)) ∙ none_earlier k m)))

    before_first : i < j → eqb j i ≡ new_arc arcs i
    before_first h = absurd (both_ways (leads (get_or arcs i no_arc) s o) (none_earlier i h) itself)

    pub new_first : eqb j i ≡ new_arc arcs i
    new_first = ⊎_elim at_first (λ c. ⊎_elim after_first before_first c) (cases_order j i)

  -- whether the first arc found is this one
  pub new_is : (r : Option ℕ) → NextArc arcs s o r → option_eq eqb r (Some i) ≡ new_arc arcs i
  new_is (Some j) n = new_first j n
  new_is None n = new_never n

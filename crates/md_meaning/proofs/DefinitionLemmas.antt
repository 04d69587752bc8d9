-- What follows a definition is fewer lines, so there is an end to definitions.
use Rattle.std.proofs.Common.{◌≡◌, ℕ, zero, suc, ◌<◌, ◌≤◌, Bool, true, false, if◌then◌else◌, List, [], ◌∷◌, length}
use Rattle.std.proofs.Common.{Option, Some, None, refl, ap, ◌∙◌, arith}
use Rattle.md_meaning.specs.Lines.{begins_with}
use Rattle.md_meaning.specs.Bytes.{after_optional}
use Rattle.md_meaning.specs.Rest.{is_blank, is_parted, trim_start}
use Rattle.md_meaning.specs.Enclosed.{Enclosed, Closed, Open, Broken, enclosed, Lines, with_line, enclosed_lines}
use Rattle.md_meaning.specs.Definition.{Defined, is_label, label_at, after_colon, after_gap, Destination}
use Rattle.md_meaning.specs.Definition.{destination_at, title_closer, alone, title_at, title_after, Cut, with_title}
use Rattle.md_meaning.specs.Definition.{with_destination, definition_at, with_definition, cut_at_most, cut_definitions}

with_line-rest : (line : List ℕ) (found : Option Lines) (text : Lines) → with_line line found ≡ Some text →
    (t : Lines) × (found ≡ Some t) × (t.rest ≡ text.rest)
with_line-rest line None text e = cc
with_line-rest line (Some t) text e =
    let k : record { text = line ∷ t.text; rest = t.rest } ≡ text = cc in (t, refl, ap (λ (x : Lines). x.rest) k)

length-enclosed_lines : (opener closer : ℕ) (lines : List (List ℕ)) (text : Lines) →
    enclosed_lines opener closer lines ≡ Some text → length text.rest ≤ length lines
unfolding enclosed_lines
length-enclosed_lines opener closer [] text e = cc
length-enclosed_lines opener closer (line ∷ lines) text e =
    go (enclosed opener closer false line) (length-enclosed_lines opener closer lines) e
  where
    go : (found : Enclosed) →
        ((t : Lines) → enclosed_lines opener closer lines ≡ Some t → length t.rest ≤ length lines) → (elim found [
          | Closed words rest ↦ Some (record { text = words ∷ []; rest = rest ∷ lines })
          | Open ↦ with_line line (enclosed_lines opener closer lines)
          | Broken ↦ None
        ]) ≡ Some text → length text.rest ≤ suc (length lines)
    go (Closed words rest) below f =
        let k : record { text = words ∷ []; rest = rest ∷ lines } ≡ text = cc in
        omega (arith, ap (λ (x : Lines). length x.rest) k)
    go Open below f =
        let k = with_line-rest line (enclosed_lines opener closer lines) text f in
        omega (arith, below k.0 k.1, ap length k.2)
    go Broken below f = cc

length-label_at : (lines : List (List ℕ)) (text : Lines) → label_at lines ≡ Some text → length text.rest ≤ length lines
unfolding label_at
length-label_at [] text e = cc
length-label_at (rest ∷ lines) text e =
    go (begins_with 91 rest) (enclosed_lines 91 93 (after_optional 91 rest ∷ lines)) refl e
  where
    kept : (label : Lines) (fits : Bool) → enclosed_lines 91 93 (after_optional 91 rest ∷ lines) ≡ Some label →
        (if fits then Some label else None) ≡ Some text → length text.rest ≤ suc (length lines)
    kept label true found f =
        let k : label ≡ text = cc in
        omega (
          arith,
          length-enclosed_lines 91 93 (after_optional 91 rest ∷ lines) label found,
          ap (λ (x : Lines). length x.rest) k,
        )
    kept label false found f = cc

    go : (opens : Bool) (found : Option Lines) → enclosed_lines 91 93 (after_optional 91 rest ∷ lines) ≡ found →
        (if opens then (elim found [ Some label ↦ (if is_label label.text then Some label else None) | None ↦ None ])
        else None) ≡
        Some text →
        length text.rest ≤ suc (length lines)
    go true (Some label) found f = kept label (is_label label.text) found f
    go true None found f = cc
    go false found g f = cc

length-after_colon : (lines more : List (List ℕ)) → after_colon lines ≡ Some more → length more ≤ length lines
length-after_colon [] more e = cc
length-after_colon (rest ∷ lines) more e = go (begins_with 58 rest) e
  where
    go : (t : Bool) → (if t then Some (after_optional 58 rest ∷ lines) else None) ≡ Some more →
        length more ≤ suc (length lines)
    go true f = let k : after_optional 58 rest ∷ lines ≡ more = cc in omega (arith, ap length k)
    go false f = cc

length-after_gap : (lines : List (List ℕ)) → length (after_gap lines) ≤ length lines
length-after_gap [] = omega arith
length-after_gap (line ∷ lines) = go (is_blank line)
  where
    go : (t : Bool) → length (if t then lines else trim_start line ∷ lines) ≤ suc (length lines)
    go true = omega arith
    go false = omega arith

length-alone : (found : Option Lines) (text : Lines) → alone found ≡ Some text →
    (t : Lines) × (found ≡ Some t) × (length text.rest < length t.rest)
length-alone None text e = cc
length-alone (Some t) text e = go t.rest refl e
  where
    go : (rest : List (List ℕ)) → t.rest ≡ rest →
        (elim rest [
          | [] ↦ None
          | rest ∷ lines ↦ (if is_blank rest then Some (record { text = t.text; rest = lines }) else None)
        ]) ≡
        Some text →
        (u : Lines) × (Some t ≡ Some u) × (length text.rest < length u.rest)
    go [] g f = cc
    go (rest ∷ lines) g f = kept (is_blank rest) f
      where
        kept : (blank : Bool) → (if blank then Some (record { text = t.text; rest = lines }) else None) ≡ Some text →
            (u : Lines) × (Some t ≡ Some u) × (length text.rest < length u.rest)
        kept true h =
            let k : record { text = t.text; rest = lines } ≡ text = cc in
            (t, refl, omega (arith, ap length g, ap (λ (x : Lines). length x.rest) k))
        kept false h = cc

length-title_at : (lines : List (List ℕ)) (text : Lines) → title_at lines ≡ Some text → length text.rest < length lines
unfolding title_at
length-title_at [] text e = cc
length-title_at ([] ∷ lines) text e = cc
length-title_at ((b ∷ bs) ∷ lines) text e = go (title_closer b) e
  where
    go : (closer : Option ℕ) →
        (elim closer [ Some c ↦ alone (enclosed_lines b c (bs ∷ lines)) | None ↦ None ]) ≡ Some text →
        length text.rest < suc (length lines)
    go None f = cc
    go (Some c) f =
        let k = length-alone (enclosed_lines b c (bs ∷ lines)) text f in
        omega (arith, length-enclosed_lines b c (bs ∷ lines) k.0 k.1, k.2)

length-title_after : (rest : List ℕ) (lines : List (List ℕ)) (text : Lines) → title_after rest lines ≡ Some text →
    length text.rest ≤ length lines
length-title_after rest lines text e = go (is_parted rest) e
  where
    go : (t : Bool) → (if t then title_at (after_gap (rest ∷ lines)) else None) ≡ Some text →
        length text.rest ≤ length lines
    go true f = omega (arith, length-title_at _ text f, length-after_gap (rest ∷ lines))
    go false f = cc

length-with_title : (label : List (List ℕ)) (d : Destination) (lines : List (List ℕ)) (cut : Cut) →
    with_title label d lines ≡ Some cut → length cut.rest ≤ length lines
length-with_title label d lines cut e = go (title_after d.rest lines) refl e
  where
    go : (title : Option Lines) → title_after d.rest lines ≡ title → (elim title [
      | Some title ↦ Some
          (record {
            defined = record { label = label; destination = d.text; title = Some title.text };
            rest = title.rest;
          })
      | None ↦ (if is_blank d.rest
          then Some (record { defined = record { label = label; destination = d.text; title = None }; rest = lines })
          else None)
    ]) ≡ Some cut → length cut.rest ≤ length lines
    go (Some title) g f =
        let k : record {
          defined = record { label = label; destination = d.text; title = Some title.text };
          rest = title.rest;
        } ≡
        cut = cc in
        omega (arith, length-title_after d.rest lines title g, ap (λ (x : Cut). length x.rest) k)
    go None g f = kept (is_blank d.rest) f
      where
        kept : (blank : Bool) →
            (if blank
            then Some (record { defined = record { label = label; destination = d.text; title = None }; rest = lines })
            else None) ≡
            Some cut →
            length cut.rest ≤ length lines
        kept true h =
            let k : record { defined = record { label = label; destination = d.text; title = None }; rest = lines } ≡
            cut = cc in
            omega (arith, ap (λ (x : Cut). length x.rest) k)
        kept false h = cc

length-with_destination : (label : List (List ℕ)) (lines : List (List ℕ)) (cut : Cut) →
    with_destination label lines ≡ Some cut → length cut.rest < length lines
length-with_destination label [] cut e = cc
length-with_destination label (line ∷ lines) cut e = go (destination_at line) e
  where
    go : (d : Option Destination) → (elim d [ Some d ↦ with_title label d lines | None ↦ None ]) ≡ Some cut →
        length cut.rest < suc (length lines)
    go None f = cc
    go (Some d) f = omega (arith, length-with_title label d lines cut f)

pub length-definition_at : (lines : List (List ℕ)) (cut : Cut) → definition_at lines ≡ Some cut →
    length cut.rest < length lines
unfolding definition_at
length-definition_at lines cut e = go (label_at lines) refl e
  where
    following : (label : Lines) → label_at lines ≡ Some label → (more : Option (List (List ℕ))) →
        after_colon label.rest ≡ more →
        (elim more [ Some more ↦ with_destination label.text (after_gap more) | None ↦ None ]) ≡ Some cut →
        length cut.rest < length lines
    following label g (Some more) h f =
        omega (
          arith,
          length-label_at lines label g,
          length-after_colon label.rest more h,
          length-after_gap more,
          length-with_destination label.text (after_gap more) cut f,
        )
    following label g None h f = cc

    go : (label : Option Lines) → label_at lines ≡ label → (elim label [
      | Some label ↦ elim (after_colon label.rest) [
        | Some more ↦ with_destination label.text (after_gap more)
        | None ↦ None
      ]
      | None ↦ None
    ]) ≡ Some cut → length cut.rest < length lines
    go None g f = cc
    go (Some label) g f = following label g (after_colon label.rest) refl f

-- at most so many definitions after the first
abbrev then_cut : ℕ → List (List ℕ) → Option Cut → List Defined × List (List ℕ)
then_cut n lines None = ([], lines)
then_cut n lines (Some cut) = with_definition cut.defined (cut_at_most n cut.rest)

cut_at_most-suc : (n : ℕ) (lines : List (List ℕ)) (first : Option Cut) → definition_at lines ≡ first →
    cut_at_most (suc n) lines ≡ then_cut n lines first
unfolding cut_at_most
cut_at_most-suc n lines None e = rw (e, cut_at_most) refl
cut_at_most-suc n lines (Some cut) e = rw (e, cut_at_most) refl

cut_at_most-zero : (lines : List (List ℕ)) → cut_at_most 0 lines ≡ ([], lines)
unfolding cut_at_most
cut_at_most-zero lines = refl

-- there are at most as many definitions as lines
cut_at_most-enough : (n m : ℕ) (lines : List (List ℕ)) → length lines ≤ n → length lines ≤ m →
    cut_at_most n lines ≡ cut_at_most m lines
cut_at_most-enough zero zero lines h k = refl
cut_at_most-enough zero (suc m) lines h k = go (definition_at lines) refl
  where
    go : (first : Option Cut) → definition_at lines ≡ first → cut_at_most 0 lines ≡ cut_at_most (suc m) lines
    go None e = rw (cut_at_most-suc m lines None e) (cut_at_most-zero lines)
    go (Some cut) e = absurd (omega (arith, length-definition_at lines cut e))
cut_at_most-enough (suc n) zero lines h k = go (definition_at lines) refl
  where
    go : (first : Option Cut) → definition_at lines ≡ first → cut_at_most (suc n) lines ≡ cut_at_most 0 lines
    go None e = rw (cut_at_most-suc n lines None e, cut_at_most-zero lines) refl
    go (Some cut) e = absurd (omega (arith, length-definition_at lines cut e))
cut_at_most-enough (suc n) (suc m) lines h k = go (cut_at_most-enough n m) (definition_at lines) refl
  where
    go : ((more : List (List ℕ)) → length more ≤ n → length more ≤ m → cut_at_most n more ≡ cut_at_most m more) →
        (first : Option Cut) → definition_at lines ≡ first → cut_at_most (suc n) lines ≡ cut_at_most (suc m) lines
    go fewer None e = rw (cut_at_most-suc n lines None e, cut_at_most-suc m lines None e) refl
    go fewer (Some cut) e =
        rw (cut_at_most-suc n lines (Some cut) e, cut_at_most-suc m lines (Some cut) e)
        (ap (with_definition cut.defined)
        (fewer cut.rest (omega (arith, length-definition_at lines cut e))
        (omega (arith, length-definition_at lines cut e))))

pub cut_definitions-some : (lines : List (List ℕ)) (cut : Cut) → definition_at lines ≡ Some cut →
    cut_definitions lines ≡ with_definition cut.defined (cut_definitions cut.rest)
unfolding cut_definitions
cut_definitions-some [] cut e = let fewer : length cut.rest < 0 = length-definition_at [] cut e in absurd (omega arith)
cut_definitions-some (line ∷ lines) cut e =
    cut_at_most-suc (length lines) (line ∷ lines) (Some cut) e
    ∙ ap (with_definition cut.defined)
    (cut_at_most-enough (length lines) (length cut.rest) cut.rest
    (omega (arith, length-definition_at (line ∷ lines) cut e)) (omega arith))

pub cut_definitions-none : (lines : List (List ℕ)) → definition_at lines ≡ None → cut_definitions lines ≡ ([], lines)
unfolding cut_definitions
cut_definitions-none [] e = cut_at_most-zero []
cut_definitions-none (line ∷ lines) e = cut_at_most-suc (length lines) (line ∷ lines) None e

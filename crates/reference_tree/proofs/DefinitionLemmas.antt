-- Texts, parentheses and lines, one byte or one line at a time.
use Rattle.std.proofs.Common.{◌≡◌, ℕ, ◌+◌, ◌-◌, ◌<◌, Bool, false, List, [], ◌∷◌, ◌++◌}
use Rattle.std.proofs.Common.{map, length, drop, Option, Some, None, option_map, Bor, refl, sym, ap}
use Rattle.std.proofs.Common.{◌∙◌, get_or, arith, append_assoc}
use Rattle.std.specs.List.{list_all}
use Rattle.std.proofs.lemmas.List.Folds.{list_all-map}
use Rattle.std.proofs.lemmas.List.{length-drop, length-map, map-append}
use Rattle.md_meaning.specs.Enclosed.{Enclosed, Closed, Open, Broken, enclosed, Lines, with_line}
use Rattle.md_meaning.specs.Enclosed.{enclosed_lines}
use Rattle.md_meaning.specs.Definition.{Defined, definition_at, with_definition, cut_definitions}
use Rattle.md_meaning.proofs.DefinitionLemmas.{length-definition_at, cut_definitions-some, cut_definitions-none}
use Rattle.reference_tree.specs.declared.definition.Found.{Found}
use Rattle.reference_tree.specs.declared.definition.Defined as plain
use Rattle.md_scan.specs.Definitions.{texts}
use Rattle.reference_tree.specs.Definitions.{defined_meaning, found_meaning}
use Rattle.md_scan.proofs.DefinitionLemmas.{texts-drop}

-- with these lines before the text
abbrev pub with_lines : List (List ℕ) → Option Lines → Option Lines
with_lines text None = None
with_lines text (Some more) = Some (record { text = text ++ more.text; rest = more.rest })

with_lines-with_line : (text : List (List ℕ)) (line : List ℕ) (found : Option Lines) →
    with_lines text (with_line line found) ≡ with_lines (text ++ line ∷ []) found
with_lines-with_line text line None = refl
with_lines-with_line text line (Some more) = rw append_assoc refl

pub list_all_texts : (test : List ℕ → Bool) (lines : List (Bor (List ℕ))) →
    list_all test (texts lines) ≡ list_all (λ line. test line.now) lines
list_all_texts test lines = list_all-map test (λ line. line.now) lines

pub texts-push : (old new : List (Bor (List ℕ))) (line : Bor (List ℕ)) → new ≡ old ++ line ∷ [] →
    texts new ≡ texts old ++ line.now ∷ []
texts-push old new line e = ap texts e ∙ map-append (λ x. x.now) old (line ∷ [])

-- a text over lines, by how its first line continues
abbrev lines_from : ℕ → ℕ → List ℕ → List (List ℕ) → Enclosed → Option Lines
lines_from opener closer line lines (Closed text rest) = Some (record { text = text ∷ []; rest = rest ∷ lines })
lines_from opener closer line lines Open = with_line line (enclosed_lines opener closer lines)
lines_from opener closer line lines Broken = None

enclosed_lines-cons : (opener closer : ℕ) (line : List ℕ) (lines : List (List ℕ)) (found : Enclosed) →
    found ≡ enclosed opener closer false line →
    enclosed_lines opener closer (line ∷ lines) ≡ lines_from opener closer line lines found
unfolding enclosed_lines
enclosed_lines-cons opener closer line lines (Closed text rest) e = rw (sym e, enclosed_lines) refl
enclosed_lines-cons opener closer line lines Open e = rw (sym e, enclosed_lines) refl
enclosed_lines-cons opener closer line lines Broken e = rw (sym e, enclosed_lines) refl

enclosed_lines-nil : (opener closer : ℕ) → enclosed_lines opener closer [] ≡ None
unfolding enclosed_lines
enclosed_lines-nil opener closer = refl

pub with_lines-closed : (seen : List (List ℕ)) (opener closer : ℕ) (line last rest : List ℕ) (lines : List (List ℕ)) →
    Closed last rest ≡ enclosed opener closer false line →
    with_lines seen (enclosed_lines opener closer (line ∷ lines)) ≡
    Some (record { text = seen ++ last ∷ []; rest = rest ∷ lines })
with_lines-closed seen opener closer line last rest lines e =
    ap (with_lines seen) (enclosed_lines-cons opener closer line lines (Closed last rest) e)

pub with_lines-broken : (seen : List (List ℕ)) (opener closer : ℕ) (line : List ℕ) (lines : List (List ℕ)) →
    Broken ≡ enclosed opener closer false line → with_lines seen (enclosed_lines opener closer (line ∷ lines)) ≡ None
with_lines-broken seen opener closer line lines e =
    ap (with_lines seen) (enclosed_lines-cons opener closer line lines Broken e)

pub with_lines-open : (seen : List (List ℕ)) (opener closer : ℕ) (line : List ℕ) (lines : List (List ℕ)) →
    Open ≡ enclosed opener closer false line →
    with_lines seen (enclosed_lines opener closer (line ∷ lines)) ≡
    with_lines (seen ++ line ∷ []) (enclosed_lines opener closer lines)
with_lines-open seen opener closer line lines e =
    ap (with_lines seen) (enclosed_lines-cons opener closer line lines Open e)
    ∙ with_lines-with_line seen line (enclosed_lines opener closer lines)

pub with_lines-end : (seen : List (List ℕ)) (opener closer : ℕ) (line : List ℕ) (lines : List (List ℕ)) → lines ≡ [] →
    Open ≡ enclosed opener closer false line → with_lines seen (enclosed_lines opener closer (line ∷ lines)) ≡ None
with_lines-end seen opener closer line lines none e =
    with_lines-open seen opener closer line lines e
    ∙ ap (λ ls. with_lines (seen ++ line ∷ []) (enclosed_lines opener closer ls)) none
    ∙ ap (with_lines (seen ++ line ∷ [])) (enclosed_lines-nil opener closer)

-- with these definitions before the others
abbrev pub with_definitions : List Defined → List Defined × List (List ℕ) → List Defined × List (List ℕ)
with_definitions seen cut = (seen ++ cut.0, cut.1)

pub with_definitions-push : (old new : List plain.Defined) (defined : plain.Defined)
    (cut : List Defined × List (List ℕ)) →
    new ≡ old ++ defined ∷ [] →
    with_definitions (map defined_meaning new) cut ≡
    with_definitions (map defined_meaning old) (with_definition (defined_meaning defined) cut)
with_definitions-push old new defined cut e =
    ap (λ ds. with_definitions (map defined_meaning ds) cut) e
    ∙ ap (λ ds. with_definitions ds cut) (map-append defined_meaning old (defined ∷ []))
    ∙ ap (λ ds. (ds, cut.1)) (append_assoc (map defined_meaning old) (defined_meaning defined ∷ []) cut.0)

pub length-texts-drop : (i : ℕ) (lines : List (Bor (List ℕ))) → length (texts (drop i lines)) ≡ length lines - i
length-texts-drop i lines = length-map (drop i lines) (λ line. line.now) ∙ length-drop i lines

-- the definition that begins with this line, if one does
next_definition : (lines : List (Bor (List ℕ))) (i : ℕ) (found : Option Found) (first : Found) →
    option_map (found_meaning lines) found ≡ definition_at (texts (drop i lines)) → found ≡ Some first →
    definition_at (texts (drop i lines)) ≡ Some (found_meaning lines first)
next_definition lines i found first e f = sym e ∙ ap (option_map (found_meaning lines)) f

pub definition-smaller : (lines : List (Bor (List ℕ))) (i : ℕ) (found : Option Found) (first : Found) →
    option_map (found_meaning lines) found ≡ definition_at (texts (drop i lines)) → found ≡ Some first →
    length lines - first.next < length lines - i
definition-smaller lines i found first e f =
    omega (
      arith,
      length-definition_at (texts (drop i lines)) (found_meaning lines first)
          (next_definition lines i found first e f),
      length-texts-drop i lines,
      length-texts-drop first.next lines,
    )

pub definition-more : (lines : List (Bor (List ℕ))) (i : ℕ) (found : Option Found) (first : Found) →
    option_map (found_meaning lines) found ≡ definition_at (texts (drop i lines)) → found ≡ Some first →
    cut_definitions (texts (drop i lines)) ≡
    with_definition (defined_meaning first.defined) (cut_definitions (texts (drop first.next lines)))
definition-more lines i found first e f =
    cut_definitions-some (texts (drop i lines)) (found_meaning lines first) (next_definition lines i found first e f)

pub definition-none : (lines : List (Bor (List ℕ))) (i : ℕ) (found : Option Found) →
    option_map (found_meaning lines) found ≡ definition_at (texts (drop i lines)) → found ≡ None →
    cut_definitions (texts (drop i lines)) ≡ ([], texts (drop i lines))
definition-none lines i found e f =
    cut_definitions-none (texts (drop i lines)) (sym e ∙ ap (option_map (found_meaning lines)) f)

pub texts-moved : (old new lines : List (Bor (List ℕ))) (i : ℕ) (d : Bor (List ℕ)) →
    new ≡ old ++ get_or lines i d ∷ [] → i < length lines →
    texts new ++ texts (drop (i + 1) lines) ≡ texts old ++ texts (drop i lines)
texts-moved old new lines i d e h =
    rw (texts-push old new (get_or lines i d) e, append_assoc)
    (ap (λ ls. texts old ++ ls) (sym (texts-drop lines i d h)))

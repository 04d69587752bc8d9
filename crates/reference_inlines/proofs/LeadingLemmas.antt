-- What a link or an image leads to is that of the definition, as nodes.
use Rattle.std.proofs.Common.{◌≡◌, ℕ, zero, suc, ◌+◌, ◌<◌, ◌≤◌, Bool, true, false, cond, ◌&&◌, List, [], ◌∷◌, ◌++◌}
use Rattle.std.proofs.Common.{length, take, drop, Option, Some, None, refl, ap, sym, ◌∙◌, arith, append_assoc}
use Rattle.std.proofs.Common.{append-nil}
use Rattle.std.specs.Prelude.{◌==◌, not, option_map}
use Rattle.std.proofs.lemmas.List.{drop-drop, length-drop}
use Rattle.md_engine.specs.declared.event.Name.TheVariants as n
use Rattle.md_meaning.specs.Ascii.{left_bracket, left_parenthesis, right_bracket}
use Rattle.md_meaning.specs.Lines.{begins_with}
use Rattle.md_inline_events.specs.Forest.{Forest, nothing, over, part, size}
use Rattle.md_inlines.specs.Escape.{ampersand, is_escape, reference_at}
use Rattle.md_inlines.specs.Target.{is_own_label, resource_at}
use Rattle.md_inlines.specs.declared.InlineOptions.{InlineOptions}
use Rattle.md_inlines.specs.declared.Reference.{Reference}
use Rattle.md_inlines.specs.declared.Resource.{Resource}
use Rattle.md_inlines.specs.Atoms.{beside, byte, escape, markers, or_else, reference}
use Rattle.md_inlines.specs.Targets as e
use Rattle.md_inlines.specs.Targets.{string_at_most, string_atom}
use Rattle.proof_inlines.proofs.ContentForests.{size-part, size-piece}
use Rattle.reference_inlines.specs.Leading.{defined, destination_nodes, first_of_two, inner, label_after, marked_title}
use Rattle.reference_inlines.specs.Leading.{reference_after, reference_nodes, resource_nodes, short}
use Rattle.reference_inlines.specs.Leading.{string_nodes, string_parts, target, title_nodes}
use Rattle.reference_inlines.specs.Nodes.{kept, nodes, pieces}
use Rattle.reference_inlines.specs.declared.node.Node.{Node}
use Rattle.reference_inlines.specs.declared.node.Node.TheVariants as node
use Rattle.reference_inlines.proofs.MergedLemmas.{merged-nodes}
use Rattle.reference_inlines.proofs.NodeLemmas.{nodes-beside, nodes-over}

-- Strings.

reference-some : (r : Reference) → 0 < size (reference r)
reference-some r =
    let inside : Forest = markers r.markers
    (over n.CharacterReferenceValue r.value (byte n.CharacterReferenceMarkerSemi nothing)) in
    omega (
      arith,
      size-part n.CharacterReference (byte n.CharacterReferenceMarker inside) nothing,
      size-piece n.CharacterReferenceMarker 0 inside,
    )

pub atom-some : (options : InlineOptions) (text : List ℕ) (found : Forest) → string_atom options text ≡ Some found →
    0 < size found
atom-some options text found h =
    go options.constructs.character_escape (is_escape text) options.constructs.character_reference
    (begins_with ampersand text) (reference_at (drop 1 text)) h
  where
    same : (other : Forest) → Some other ≡ Some found → 0 < size other → 0 < size found
    same other h some =
        let is : other ≡ found = cc in
        let long : size other ≡ size found = ap size is in
        omega (arith, some, long)

    go : (a b c d : Bool) (o : Option Reference) →
        or_else (cond a (cond b (Some escape) None) None) (cond c (cond d (option_map reference o) None) None) ≡
        Some found → 0 < size found
    go true true c d o h = same escape h (omega arith)
    go true false true true (Some r) h = same (reference r) h (reference-some r)
    go true false true true None h = cc
    go true false true false o h = cc
    go true false false d o h = cc
    go false b true true (Some r) h = same (reference r) h (reference-some r)
    go false b true true None h = cc
    go false b true false o h = cc
    go false b false d o h = cc

string-alike : (options : InlineOptions) (more least : ℕ) (text : List ℕ) → length text ≤ more →
    length text ≤ least → string_at_most options more text ≡ string_at_most options least text
string-alike options zero zero text h k = refl
string-alike options zero (suc least) [] h k = refl
string-alike options (suc more) zero [] h k = refl
string-alike options (suc more) (suc least) [] h k = refl
string-alike options zero (suc least) (b ∷ text) h k = absurd (omega (arith, h))
string-alike options (suc more) zero (b ∷ text) h k = absurd (omega (arith, k))
string-alike options (suc more) (suc least) (b ∷ text) h k =
    go (string_atom options (b ∷ text)) (atom-some options (b ∷ text)) (string-alike options more least)
  where
    go : (o : Option Forest) → ((found : Forest) → o ≡ Some found → 0 < size found) →
        ((rest : List ℕ) → length rest ≤ more → length rest ≤ least →
        string_at_most options more rest ≡ string_at_most options least rest) →
        elim o as (λ (_ : Option Forest). Forest) [
          | Some found ↦ beside found (string_at_most options more (drop (size found) (b ∷ text)))
          | None ↦ byte n.Data (string_at_most options more text)
        ] ≡
        elim o as (λ (_ : Option Forest). Forest) [
          | Some found ↦ beside found (string_at_most options least (drop (size found) (b ∷ text)))
          | None ↦ byte n.Data (string_at_most options least text)
        ]
    go (Some found) some rest =
        let positive : 0 < size found = some found refl in
        ap (beside found)
        (rest (drop (size found) (b ∷ text)) (omega (arith, positive, h, length-drop (size found) (b ∷ text)))
        (omega (arith, positive, k, length-drop (size found) (b ∷ text))))
    go None some rest = ap (byte n.Data) (rest text (omega (arith, h)) (omega (arith, k)))

pub string-found : (options : InlineOptions) (b : ℕ) (text : List ℕ) (found : Forest) →
    string_atom options (b ∷ text) ≡ Some found →
    nodes (string_parts options (b ∷ text)) ≡
    nodes found ++ nodes (string_parts options (drop (size found) (b ∷ text)))
string-found options b text found h =
    let positive : 0 < size found = atom-some options (b ∷ text) found h in
    let made : string_parts options (b ∷ text) ≡
    beside found (string_at_most options (length text) (drop (size found) (b ∷ text))) =
    rw (h, string_at_most) refl in
    ap nodes made
    ∙ nodes-beside found (string_at_most options (length text) (drop (size found) (b ∷ text)))
    ∙ ap (λ (f : Forest). nodes found ++ nodes f)
    (string-alike options (length text) (length (drop (size found) (b ∷ text))) (drop (size found) (b ∷ text))
    (omega (arith, positive, length-drop (size found) (b ∷ text))) (omega arith))

pub string-plain : (options : InlineOptions) (b : ℕ) (text : List ℕ) →
    string_atom options (b ∷ text) ≡ None →
    nodes (string_parts options (b ∷ text)) ≡ node.Piece n.Data 1 ∷ nodes (string_parts options text)
string-plain options b text h =
    let made : string_parts options (b ∷ text) ≡ byte n.Data (string_at_most options (length text) text) =
    rw (h, string_at_most) refl in
    ap nodes made

pub string-is : (options : InlineOptions) (text : List ℕ) →
    string_nodes options text ≡ nodes (e.string options text)
string-is options text = sym (merged-nodes (string_parts options text))

-- Resources.

destination-is : (options : InlineOptions) (is_literal : Bool) (text : List ℕ) →
    destination_nodes options is_literal text ≡ nodes (e.destination options is_literal text)
destination-is options true text =
    ap
    (λ (l : List Node). node.Begin n.ResourceDestinationLiteral ∷ node.Piece n.ResourceDestinationLiteralMarker 1
    ∷ node.Begin n.ResourceDestinationString ∷ []
    ++ l ++ node.End ∷ node.Piece n.ResourceDestinationLiteralMarker 1 ∷ node.End ∷ [])
    (string-is options (inner text))
    ∙ simp append_assoc
destination-is options false text =
    ap
    (λ (l : List Node). node.Begin n.ResourceDestinationRaw ∷ node.Begin n.ResourceDestinationString ∷ []
    ++ l ++ node.End ∷ node.End ∷ [])
    (string-is options text)
    ∙ simp append_assoc

title-is : (options : InlineOptions) (text : List ℕ) → marked_title options text ≡ nodes (e.title options text)
title-is options text =
    ap
    (λ (l : List Node). node.Piece n.ResourceTitleMarker 1 ∷ node.Begin n.ResourceTitleString ∷ []
    ++ l ++ node.End ∷ node.Piece n.ResourceTitleMarker 1 ∷ [])
    (string-is options (inner text))
    ∙ simp append_assoc

title-part : (options : InlineOptions) (r : Resource) (text : List ℕ) (following : Forest) →
    nodes (e.title_part options r text following) ≡ title_nodes options r text ++ nodes following
title-part options r text following = go (r.title == 0)
  where
    inside : List Node
    inside = nodes (e.title options (take r.title text))

    pulled : (a b c : List Node) → a ++ node.End ∷ (b ++ c) ≡ a ++ node.End ∷ (b ++ []) ++ c
    pulled a b c = simp (append_assoc, append-nil)

    go : (t : Bool) →
        nodes
        (cond t following
        (part n.ResourceTitle (e.title options (take r.title text)) (over n.SpaceOrTab r.after following))) ≡
        cond t []
        (node.Begin n.ResourceTitle ∷ [] ++ marked_title options (take r.title text)
        ++ kept (node.End ∷ node.Piece n.SpaceOrTab r.after ∷ []))
        ++ nodes following
    go true = refl
    go false =
        ap
        (λ (l : List Node). node.Begin n.ResourceTitle
        ∷ (nodes (e.title options (take r.title text)) ++ node.End ∷ l))
        (nodes-over n.SpaceOrTab r.after following)
        ∙ ap (λ (l : List Node). node.Begin n.ResourceTitle ∷ l)
        (pulled (nodes (e.title options (take r.title text))) (pieces n.SpaceOrTab r.after) (nodes following))
        ∙ ap
        (λ (l : List Node). node.Begin n.ResourceTitle ∷ [] ++ l
        ++ kept (node.End ∷ node.Piece n.SpaceOrTab r.after ∷ []) ++ nodes following)
        (sym (title-is options (take r.title text)))

resource-parts : (a d b t : List Node) →
    node.Begin n.Resource ∷ node.Piece n.ResourceMarker 1
    ∷ (a ++ node.Begin n.ResourceDestination ∷ (d ++ node.End ∷ (b ++ (t ++ node.Piece n.ResourceMarker 1 ∷ []))))
    ++ node.End ∷ [] ≡
    node.Begin n.Resource ∷ node.Piece n.ResourceMarker 1 ∷ (a ++ node.Begin n.ResourceDestination ∷ []) ++ d
    ++ node.End ∷ (b ++ []) ++ t ++ node.Piece n.ResourceMarker 1 ∷ node.End ∷ []
resource-parts a d b t = simp (append_assoc, append-nil)

resource-with : (options : InlineOptions) (r : Resource) (start tail : List ℕ) →
    nodes
    (part n.Resource
    (byte n.ResourceMarker
    (over n.SpaceOrTab r.before
    (part n.ResourceDestination (e.destination options r.is_literal (take r.destination start))
    (over n.SpaceOrTab r.between (e.title_part options r tail (byte n.ResourceMarker nothing))))))
    nothing) ≡
    kept
    (node.Begin n.Resource ∷ node.Piece n.ResourceMarker 1 ∷ node.Piece n.SpaceOrTab r.before
    ∷ node.Begin n.ResourceDestination ∷ [])
    ++ destination_nodes options r.is_literal (take r.destination start)
    ++ kept (node.End ∷ node.Piece n.SpaceOrTab r.between ∷ []) ++ title_nodes options r tail
    ++ node.Piece n.ResourceMarker 1 ∷ node.End ∷ []
resource-with options r start tail =
    let rest : Forest = e.title_part options r tail (byte n.ResourceMarker nothing) in
    let target : Forest = e.destination options r.is_literal (take r.destination start) in
    let later : nodes (over n.SpaceOrTab r.between rest) ≡
    pieces n.SpaceOrTab r.between ++ (title_nodes options r tail ++ node.Piece n.ResourceMarker 1 ∷ []) =
    nodes-over n.SpaceOrTab r.between rest
    ∙ ap (λ l. pieces n.SpaceOrTab r.between ++ l) (title-part options r tail (byte n.ResourceMarker nothing)) in
    ap (λ l. node.Begin n.Resource ∷ node.Piece n.ResourceMarker 1 ∷ (l ++ node.End ∷ []))
    (nodes-over n.SpaceOrTab r.before (part n.ResourceDestination target (over n.SpaceOrTab r.between rest))
    ∙ ap
    (λ l. pieces n.SpaceOrTab r.before ++ node.Begin n.ResourceDestination ∷ (nodes target ++ node.End ∷ l)) later
    ∙ ap
    (λ l. pieces n.SpaceOrTab r.before
    ++ node.Begin n.ResourceDestination
    ∷ (l
    ++ node.End
    ∷ (pieces n.SpaceOrTab r.between ++ (title_nodes options r tail ++ node.Piece n.ResourceMarker 1 ∷ []))))
    (sym (destination-is options r.is_literal (take r.destination start))))
    ∙ resource-parts (pieces n.SpaceOrTab r.before)
    (destination_nodes options r.is_literal (take r.destination start)) (pieces n.SpaceOrTab r.between)
    (title_nodes options r tail)

resource-is : (options : InlineOptions) (text : List ℕ) (r : Resource) →
    resource_nodes options text r ≡ nodes (e.resource options text r)
resource-is options text r =
    let start : drop r.before (drop 1 text) ≡ drop (1 + r.before) text = drop-drop r.before 1 text in
    let tail : drop r.between (drop r.destination (drop r.before (drop 1 text))) ≡
    drop (r.destination + r.between) (drop (1 + r.before) text) =
    drop-drop r.between r.destination (drop r.before (drop 1 text))
    ∙ ap (drop (r.destination + r.between)) start in
    sym
    (resource-with options r (drop r.before (drop 1 text))
    (drop r.between (drop r.destination (drop r.before (drop 1 text)))))
    ∙ ap
    (λ (l : List ℕ). nodes
    (part n.Resource
    (byte n.ResourceMarker
    (over n.SpaceOrTab r.before
    (part n.ResourceDestination (e.destination options r.is_literal (take r.destination l))
    (over n.SpaceOrTab r.between
    (e.title_part options r (drop r.between (drop r.destination (drop r.before (drop 1 text))))
    (byte n.ResourceMarker nothing))))))
    nothing)) start
    ∙ ap
    (λ (l : List ℕ). nodes
    (part n.Resource
    (byte n.ResourceMarker
    (over n.SpaceOrTab r.before
    (part n.ResourceDestination
    (e.destination options r.is_literal (take r.destination (drop (1 + r.before) text)))
    (over n.SpaceOrTab r.between (e.title_part options r l (byte n.ResourceMarker nothing))))))
    nothing)) tail

-- References.

reference-is : (options : InlineOptions) (label : List ℕ) →
    reference_nodes options label ≡ nodes (e.reference options label)
reference-is options label =
    ap
    (λ (l : List Node). node.Begin n.Reference ∷ node.Piece n.ReferenceMarker 1 ∷ node.Begin n.ReferenceString ∷ []
    ++ l ++ node.End ∷ node.Piece n.ReferenceMarker 1 ∷ node.End ∷ [])
    (string-is options label)
    ∙ simp append_assoc

some-nodes : (a b : List Node) → a ≡ b → Some a ≡ Some b
some-nodes a b h = ap (λ (l : List Node). Some l) h

module _ (options : InlineOptions) (is_definition : List ℕ → Bool) where
  short-is : (inside after : List ℕ) →
      short options is_definition inside after ≡ option_map nodes (e.short options is_definition inside after)
  short-is inside after =
      go (not (is_own_label inside && is_definition inside))
      (begins_with left_bracket after && begins_with right_bracket (drop 1 after))
    where
      go : (x y : Bool) →
          cond x None (cond y (Some (reference_nodes options [])) (Some [])) ≡
          option_map nodes (cond x None (cond y (Some (e.reference options [])) (Some nothing)))
      go true y = refl
      go false true = some-nodes (reference_nodes options []) (nodes (e.reference options [])) (reference-is options [])
      go false false = refl

  reference-after-is : (inside after : List ℕ) →
      reference_after options is_definition inside after ≡
      option_map nodes (e.reference_after options is_definition inside after)
  reference-after-is inside after = go (label_after after)
    where
      choose : (label : List ℕ) (t : Bool) →
          cond t (Some (reference_nodes options label)) None ≡
          option_map nodes (cond t (Some (e.reference options label)) None)
      choose label true =
          some-nodes (reference_nodes options label) (nodes (e.reference options label)) (reference-is options label)
      choose label false = refl

      go : (o : Option ℕ) →
          elim o as (λ (_ : Option ℕ). Option (List Node)) [
            | None ↦ short options is_definition inside after
            | Some len ↦ defined options is_definition (take len (drop 1 after))
          ] ≡
          option_map nodes
          (elim o as (λ (_ : Option ℕ). Option Forest) [
            | None ↦ e.short options is_definition inside after
            | Some len ↦
                cond (is_definition (take len (drop 1 after)))
                (Some (e.reference options (take len (drop 1 after)))) None
          ])
      go None = short-is inside after
      go (Some len) = choose (take len (drop 1 after)) (is_definition (take len (drop 1 after)))

  pub target-is : (inside after : List ℕ) →
      target options is_definition inside after ≡ option_map nodes (e.target options is_definition inside after)
  target-is inside after =
      choose (begins_with left_parenthesis after) (resource_at (drop 1 after))
    where
      choose : (t : Bool) (o : Option Resource) →
          first_of_two (cond t (option_map (resource_nodes options after) o) None)
          (reference_after options is_definition inside after) ≡
          option_map nodes
          (or_else (cond t (option_map (e.resource options after) o) None)
          (e.reference_after options is_definition inside after))
      choose true (Some r) =
          some-nodes (resource_nodes options after r) (nodes (e.resource options after r)) (resource-is options after r)
      choose true None = reference-after-is inside after
      choose false o = reference-after-is inside after

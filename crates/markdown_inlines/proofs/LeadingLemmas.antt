-- The spans of what a link or an image leads to.
use Rattle.std.proofs.Common.{◌≡◌, ℕ, zero, suc, ◌+◌, ◌-◌, ◌<◌, ◌≤◌, Bool, true, false, cond, List, [], ◌∷◌, ◌++◌}
use Rattle.std.proofs.Common.{length, take, drop, Option, Some, None, refl, ap, sym, ◌∙◌, subst, append_assoc, arith}
use Rattle.std.specs.Prelude.{◌==◌}
use Rattle.std.proofs.lemmas.Bool.Decides.{nat_tests}
use Rattle.std.proofs.lemmas.List.{append-nil, length-drop}
use Rattle.md_engine.specs.declared.event.Name.TheVariants as n
use Rattle.md_inline_events.specs.Forest.{Forest, nothing, over, part, size}
use Rattle.md_inlines.specs.declared.InlineOptions.{InlineOptions}
use Rattle.md_inlines.specs.declared.Resource.{Resource}
use Rattle.md_inlines.specs.Atoms.{beside, byte, escape_at, is_data, reference_forest, when}
use Rattle.md_inlines.specs.Targets.{destination, reference, reference_after, resource, short, string, string_at_most}
use Rattle.md_inlines.specs.Targets.{string_atom}
use Rattle.proof_inlines.specs.Sized.{IsFront}
use Rattle.proof_inlines.proofs.AtomLemmas.{Fronts, either-front, escape-front, reference-front, when-front}
use Rattle.proof_inlines.proofs.SizeLemmas.{over-size, part-size, piece-size}
use Rattle.proof_inlines.proofs.TargetLemmas.{string-over}
use Rattle.markdown_inlines.specs.declared.atom.Atom.{Atom}
use Rattle.markdown_inlines.specs.declared.span.Span.{Span}
use Rattle.markdown_inlines.specs.declared.target.Quotes.{Quotes}
use Rattle.markdown_inlines.specs.Filled.{Shows}
use Rattle.markdown_inlines.specs.Found.{atom_forest, atom_size, atom_spans}
use Rattle.markdown_inlines.specs.Leading.{destination_len, ending, ending_len, inner, label_after, quoted}
use Rattle.markdown_inlines.specs.Leading.{within_quotes}
use Rattle.markdown_inlines.specs.Spans.{live, span_of, spans_forest}
use Rattle.markdown_inlines.proofs.ShapeLemmas.{atom-live, atom-size, fits, live-last, live-over, live-part}
use Rattle.markdown_inlines.proofs.ShapeLemmas.{merged-spans, no-spans}
use Rattle.markdown_inlines.proofs.SpanLemmas.{both, live-append, spans-at, spans-beside}

-- Forests side by side.
pub shows-beside : (at end : ℕ) (f g : Forest) (old mid new : List Span) → end ≡ at + size f → Shows at old f mid →
    Shows end mid g new → Shows at old (beside f g) new
shows-beside at end f g old mid new h s t =
    record {
      own = s.own ++ t.own;
      same = t.same ∙ ap (λ (l : List Span). l ++ t.own) s.same ∙ append_assoc old s.own t.own;
      shown = live-append s.own t.own
          ∙ both (live s.own) (live t.own) (spans_forest at f) (spans_forest (at + size f) g) s.shown
          (t.shown ∙ spans-at g end (at + size f) h)
          ∙ sym (spans-beside at f g);
    }

-- Strings.

pub string-front : (options : InlineOptions) (text : List ℕ) → Fronts text (string_atom options text)
string-front options text =
    either-front text (when options.constructs.character_escape (escape_at text))
    (when options.constructs.character_reference (reference_forest text))
    (when-front text options.constructs.character_escape (escape_at text) (escape-front text))
    (when-front text options.constructs.character_reference (reference_forest text) (reference-front text))

string-alike : (options : InlineOptions) (more least : ℕ) (text : List ℕ) → length text ≤ more →
    length text ≤ least → string_at_most options more text ≡ string_at_most options least text
string-alike options zero zero text h k = refl
string-alike options zero (suc least) [] h k = refl
string-alike options (suc more) zero [] h k = refl
string-alike options (suc more) (suc least) [] h k = refl
string-alike options zero (suc least) (b ∷ text) h k = absurd (omega (arith, h))
string-alike options (suc more) zero (b ∷ text) h k = absurd (omega (arith, k))
string-alike options (suc more) (suc least) (b ∷ text) h k =
    go (string_atom options (b ∷ text)) (string-front options (b ∷ text)) (string-alike options more least)
  where
    go : (o : Option Forest) → Fronts (b ∷ text) o →
        ((rest : List ℕ) → length rest ≤ more → length rest ≤ least →
        string_at_most options more rest ≡ string_at_most options least rest) →
        elim o as (λ (_ : Option Forest). Forest) [
          | Some found ↦ beside found (string_at_most options more (drop (size found) (b ∷ text)))
          | None ↦ byte n.Data (string_at_most options more text)
        ] ≡
        elim o as (λ (_ : Option Forest). Forest) [
          | Some found ↦ beside found (string_at_most options least (drop (size found) (b ∷ text)))
          | None ↦ byte n.Data (string_at_most options least text)
        ]
    go (Some found) some rest =
        let front : IsFront (b ∷ text) found = some found refl in
        ap (beside found)
        (rest (drop (size found) (b ∷ text)) (omega (arith, front.some, h, length-drop (size found) (b ∷ text)))
        (omega (arith, front.some, k, length-drop (size found) (b ∷ text))))
    go None some rest = ap (byte n.Data) (rest text (omega (arith, h)) (omega (arith, k)))

-- a string of which no text is joined yet
abbrev pub string_parts : InlineOptions → List ℕ → Forest
string_parts options text = string_at_most options (length text) text

-- What is still to be read of a string: with its spans, the list has those of all of it.
abbrev pub ToRead : InlineOptions → ℕ → List Span → List ℕ → ℕ → List Span → List ℕ → Type 0
ToRead options at old text here spans rest =
    (final : List Span) → Shows here spans (string_parts options rest) final →
    Shows at old (string_parts options text) final

pub parts-found : (options : InlineOptions) (b : ℕ) (text : List ℕ) (found : Forest) →
    string_atom options (b ∷ text) ≡ Some found →
    string_parts options (b ∷ text) ≡ beside found (string_parts options (drop (size found) (b ∷ text)))
parts-found options b text found h =
    let front : IsFront (b ∷ text) found = string-front options (b ∷ text) found h in
    let made : string_parts options (b ∷ text) ≡
    beside found (string_at_most options (length text) (drop (size found) (b ∷ text))) =
    rw (h, string_at_most) refl in
    made
    ∙ ap (beside found)
    (string-alike options (length text) (length (drop (size found) (b ∷ text))) (drop (size found) (b ∷ text))
    (omega (arith, front.some, length-drop (size found) (b ∷ text))) (omega arith))

pub parts-plain : (options : InlineOptions) (b : ℕ) (text : List ℕ) → string_atom options (b ∷ text) ≡ None →
    string_parts options (b ∷ text) ≡ byte n.Data (string_parts options text)
parts-plain options b text h =
    let made : string_parts options (b ∷ text) ≡ byte n.Data (string_at_most options (length text) text) =
    rw (h, string_at_most) refl in
    made

pub forest-shows : (at : ℕ) (f g : Forest) (old new : List Span) → f ≡ g → Shows at old f new → Shows at old g new
forest-shows at f g old new h s =
    record { own = s.own; same = s.same; shown = s.shown ∙ ap (spans_forest at) h }

pub read-found : (options : InlineOptions) (at : ℕ) (old : List Span) (text : List ℕ) (here end : ℕ)
    (spans next own : List Span) (b : ℕ) (rest : List ℕ) (found : Forest) →
    ToRead options at old text here spans (b ∷ rest) → string_atom options (b ∷ rest) ≡ Some found →
    next ≡ spans ++ own → live own ≡ spans_forest here found → end ≡ here + size found →
    ToRead options at old text end next (drop (size found) (b ∷ rest))
read-found options at old text here end spans next own b rest found to h same shown e final s =
    to final
    (forest-shows here (beside found (string_parts options (drop (size found) (b ∷ rest))))
    (string_parts options (b ∷ rest)) spans final (sym (parts-found options b rest found h))
    (shows-beside here end found (string_parts options (drop (size found) (b ∷ rest))) spans next final e
    (record { own = own; same = same; shown = shown }) s))

pub read-all : (options : InlineOptions) (at : ℕ) (old : List Span) (text : List ℕ) (here : ℕ) (spans : List Span) →
    ToRead options at old text here spans [] → Shows at old (string options text) spans
read-all options at old text here spans to =
    let all : Shows at old (string_parts options text) spans =
    to spans (record { own = []; same = sym (append-nil spans); shown = refl }) in
    record { own = all.own; same = all.same; shown = all.shown ∙ sym (merged-spans at (string_parts options text)) }

-- an atom of a string is not empty
atom-front-size : (options : InlineOptions) (rest : List ℕ) (atom : Atom) →
    Some (atom_forest atom) ≡ string_atom options rest → (0 < atom_size atom) × (size (atom_forest atom) ≡ atom_size
    atom)
atom-front-size options rest atom h =
    let front : IsFront rest (atom_forest atom) = string-front options rest (atom_forest atom) (sym h) in
    (omega (arith, front.some, atom-size atom), atom-size atom)

pub string-shorter : (options : InlineOptions) (rest tail : List ℕ) (b : ℕ) (following : List ℕ) (atom : Atom)
    (here end k : ℕ) → rest ≡ b ∷ following → Some (atom_forest atom) ≡ string_atom options rest →
    end ≡ here + atom_size atom → k ≡ end - here → tail ≡ drop k rest → length tail < length rest
string-shorter options rest tail b following atom here end k is h e s t =
    let some = atom-front-size options rest atom h in
    let long : length rest ≡ suc (length following) = ap length is in
    let cut : length tail ≡ length (drop k rest) = ap length t in
    omega (arith, some.0, long, cut, e, s, length-drop k rest)

pub string-goes : (options : InlineOptions) (at : ℕ) (old : List Span) (text : List ℕ) (here end k : ℕ)
    (spans next : List Span) (rest tail : List ℕ) (b : ℕ) (following : List ℕ) (atom : Atom) →
    rest ≡ b ∷ following → Some (atom_forest atom) ≡ string_atom options rest →
    next ≡ spans ++ atom_spans here atom → end ≡ here + atom_size atom → k ≡ end - here → tail ≡ drop k rest →
    ToRead options at old text here spans rest → ToRead options at old text end next tail
string-goes options at old text here end k spans next rest tail b following atom is h n e s t to =
    let some = atom-front-size options rest atom h in
    let len : k ≡ size (atom_forest atom) = omega (arith, e, s, some.1) in
    subst (λ (l : List ℕ). ToRead options at old text end next l)
    (sym (t ∙ ap (λ (i : ℕ). drop i rest) len ∙ ap (drop (size (atom_forest atom))) is))
    (read-found options at old text here end spans next (atom_spans here atom) b following (atom_forest atom)
    (subst (λ (l : List ℕ). ToRead options at old text here spans l) is to)
    (ap (string_atom options) (sym is) ∙ sym h) n (atom-live here atom) (omega (arith, e, some.1)))

pub string-done : (options : InlineOptions) (at : ℕ) (old : List Span) (text : List ℕ) (here : ℕ) (spans : List Span)
    (rest : List ℕ) → length rest ≡ 0 → ToRead options at old text here spans rest →
    Shows at old (string options text) spans
string-done options at old text here spans [] none to = read-all options at old text here spans to
string-done options at old text here spans (b ∷ rest) none to = absurd (omega (arith, none))

-- no label follows
pub no-label : (options : InlineOptions) (is_definition : List ℕ → Bool) (inside after : List ℕ) →
    label_after after ≡ None →
    reference_after options is_definition inside after ≡ short options is_definition inside after
no-label options is_definition inside after h =
    ap
    (λ (o : Option ℕ). elim o as (λ (_ : Option ℕ). Option Forest) [
      | None ↦ short options is_definition inside after
      | Some len ↦ cond (is_definition (take len (drop 1 after)))
          (Some (reference options (take len (drop 1 after)))) None
    ]) h

-- Two marks around a string.

string-size : (options : InlineOptions) (text : List ℕ) → size (string options text) ≡ length text
string-size options text = (string-over options text).sized

within-size : (options : InlineOptions) (names : Quotes) (inside : List ℕ) →
    size (within_quotes options names inside) ≡ length inside + 2
within-size options names inside =
    omega (
      arith,
      piece-size names.mark 0 (part names.string (string options inside) (byte names.mark nothing)),
      part-size names.string (string options inside) (byte names.mark nothing),
      piece-size names.mark 0 nothing,
      string-size options inside,
    )

pub quoted-size : (options : InlineOptions) (names : Quotes) (inside : List ℕ) →
    size (quoted options names inside) ≡ length inside + 2
quoted-size options names inside =
    omega (
      arith,
      part-size names.whole (within_quotes options names inside) nothing,
      within-size options names inside,
    )

pub quoted-shows : (options : InlineOptions) (names : Quotes) (inside : List ℕ) (at start close end : ℕ)
    (old first mid new : List Span) → is_data names.mark ≡ false → start ≡ at + 1 → close ≡ start + length inside →
    end ≡ close + 1 →
    first ≡
    old ++ span_of names.whole at end ∷ span_of names.mark at start ∷ span_of names.string start close ∷ [] →
    Shows start first (string options inside) mid → new ≡ mid ++ span_of names.mark close end ∷ [] →
    Shows at old (quoted options names inside) new
quoted-shows options names inside at start close end old first mid new marked s c e f m l =
    record {
      own = span_of names.whole at end
          ∷ span_of names.mark at start
          ∷ span_of names.string start close
          ∷ (m.own ++ span_of names.mark close end ∷ []);
      same = l
          ∙ ap (λ (x : List Span). x ++ span_of names.mark close end ∷ []) (m.same ∙ ap (λ (x : List Span). x ++
          m.own) f)
          ∙ joined old
          (span_of names.whole at end ∷ span_of names.mark at start ∷ span_of names.string start close ∷ []) m.own
          (span_of names.mark close end ∷ []);
      shown = (live-last at end names.whole (within_quotes options names inside) _
          (omega (arith, s, c, e, within-size options names inside))
          (live-over at start names.mark 1 (part names.string (string options inside) (byte names.mark nothing)) _
          marked
          s
          (live-part start close names.string (string options inside) (byte names.mark nothing) m.own
          (span_of names.mark close end ∷ []) (omega (arith, c, string-size options inside))
          (fits start (string options inside) m.own m.shown)
          (live-over close end names.mark 1 nothing [] marked e (no-spans end))))).is;
    }
  where
    joined : (a b c d : List Span) → ((a ++ b) ++ c) ++ d ≡ a ++ (b ++ (c ++ d))
    joined a b c d = grind (arith, append_assoc)

-- Destinations.

pub raw-shows : (options : InlineOptions) (text : List ℕ) (at end : ℕ) (old first new : List Span) →
    end ≡ at + length text →
    first ≡
    old ++ span_of n.ResourceDestinationRaw at end ∷ span_of n.ResourceDestinationString at end ∷ [] →
    Shows at first (string options text) new → Shows at old (destination options false text) new
raw-shows options text at end old first new e f m =
    record {
      own = span_of n.ResourceDestinationRaw at end ∷ span_of n.ResourceDestinationString at end ∷ m.own;
      same = m.same ∙ ap (λ (x : List Span). x ++ m.own) f
          ∙ append_assoc old
          (span_of n.ResourceDestinationRaw at end ∷ span_of n.ResourceDestinationString at end ∷ []) m.own;
      shown = (live-last at end n.ResourceDestinationRaw
          (part n.ResourceDestinationString (string options text) nothing) _
          (omega (
            arith,
            e,
            part-size n.ResourceDestinationString (string options text) nothing,
            string-size options text,
          ))
          (live-last at end n.ResourceDestinationString (string options text) m.own
          (omega (arith, e, string-size options text)) (fits at (string options text) m.own m.shown))).is;
    }

pub destination-size : (options : InlineOptions) (is_literal : Bool) (text : List ℕ) →
    size (destination options is_literal text) ≡ destination_len is_literal text
destination-size options true text =
    quoted-size options
    (record {
      whole = n.ResourceDestinationLiteral;
      mark = n.ResourceDestinationLiteralMarker;
      string = n.ResourceDestinationString;
    }) (inner text)
destination-size options false text =
    omega (
      arith,
      part-size n.ResourceDestinationRaw (part n.ResourceDestinationString (string options text) nothing) nothing,
      part-size n.ResourceDestinationString (string options text) nothing,
      string-size options text,
    )

-- The end of a resource.

abbrev title_names : Quotes
title_names = record { whole = n.ResourceTitle; mark = n.ResourceTitleMarker; string = n.ResourceTitleString }

pub ending-size : (options : InlineOptions) (r : Resource) (text : List ℕ) →
    size (ending options r text) ≡ ending_len r text
ending-size options r text = go (r.title == 0)
  where
    go : (t : Bool) →
        size
        (cond t (byte n.ResourceMarker nothing)
        (part n.ResourceTitle (within_quotes options title_names (inner (take r.title text)))
        (over n.SpaceOrTab r.after (byte n.ResourceMarker nothing)))) ≡
        cond t 1 (length (inner (take r.title text)) + 2 + r.after + 1)
    go true = refl
    go false =
        omega (
          arith,
          part-size n.ResourceTitle (within_quotes options title_names (inner (take r.title text)))
              (over n.SpaceOrTab r.after (byte n.ResourceMarker nothing)),
          within-size options title_names (inner (take r.title text)),
          over-size n.SpaceOrTab r.after (byte n.ResourceMarker nothing),
          piece-size n.ResourceMarker 0 nothing,
        )

-- with a title
pub titled-shows : (options : InlineOptions) (r : Resource) (text : List ℕ) (at close mark end : ℕ)
    (old mid new : List Span) (inside : List ℕ) → (r.title ≡ 0 → ⊥) → inside ≡ inner (take r.title text) →
    close ≡ at + (length inside + 2) → mark ≡ close + r.after → end ≡ mark + 1 →
    Shows at old (quoted options title_names inside) mid →
    new ≡ mid ++ span_of n.SpaceOrTab close mark ∷ span_of n.ResourceMarker mark end ∷ [] →
    Shows at old (ending options r text) new
titled-shows options r text at close mark end old mid new inside more same c m e t h =
    let some : (r.title == 0) ≡ false = grind (arith, nat_tests) in
    let s : Shows at old (quoted options title_names (inner (take r.title text))) mid =
    forest-shows at (quoted options title_names inside) (quoted options title_names (inner (take r.title text))) old mid
    (ap (quoted options title_names) same) t in
    let long : length inside ≡ length (inner (take r.title text)) = ap length same in
    forest-shows at
    (beside (quoted options title_names (inner (take r.title text)))
    (over n.SpaceOrTab r.after (byte n.ResourceMarker nothing)))
    (ending options r text) old new
    (sym
    (ap
    (λ (t : Bool). cond t (byte n.ResourceMarker nothing)
    (part n.ResourceTitle (within_quotes options title_names (inner (take r.title text)))
    (over n.SpaceOrTab r.after (byte n.ResourceMarker nothing)))) some))
    (shows-beside at close (quoted options title_names (inner (take r.title text)))
    (over n.SpaceOrTab r.after (byte n.ResourceMarker nothing)) old mid new
    (omega (arith, c, long, quoted-size options title_names (inner (take r.title text)))) s
    (record {
      own = span_of n.SpaceOrTab close mark ∷ span_of n.ResourceMarker mark end ∷ [];
      same = h;
      shown = (live-over close mark n.SpaceOrTab r.after (byte n.ResourceMarker nothing) _ refl m
          (live-over mark end n.ResourceMarker 1 nothing [] refl e (no-spans end))).is;
    }))

-- References.

abbrev reference_names : Quotes
reference_names = record { whole = n.Reference; mark = n.ReferenceMarker; string = n.ReferenceString }

pub reference-size : (options : InlineOptions) (label inside : List ℕ) (at end : ℕ) → inside ≡ label →
    end ≡ at + (length inside + 2) → end ≡ at + size (reference options label)
reference-size options label inside at end same e =
    let long : length inside ≡ length label = ap length same in
    omega (arith, e, long, quoted-size options reference_names label)

-- Resources.

module _ (options : InlineOptions) (r : Resource) (text : List ℕ) where
  abbrev target_at : Forest
  target_at = destination options r.is_literal (take r.destination (drop (1 + r.before) text))

  abbrev ending_at : Forest
  ending_at = ending options r (drop (r.destination + r.between) (drop (1 + r.before) text))

  abbrev held : Forest
  held =
      byte n.ResourceMarker
      (over n.SpaceOrTab r.before
      (part n.ResourceDestination target_at (over n.SpaceOrTab r.between ending_at)))

  held-size : size held ≡
      1 + r.before + destination_len r.is_literal (take r.destination (drop (1 + r.before) text)) + r.between
      + ending_len r (drop (r.destination + r.between) (drop (1 + r.before) text))
  held-size =
      omega (
        arith,
        piece-size n.ResourceMarker 0
            (over n.SpaceOrTab r.before
            (part n.ResourceDestination target_at (over n.SpaceOrTab r.between ending_at))),
        over-size n.SpaceOrTab r.before
            (part n.ResourceDestination target_at (over n.SpaceOrTab r.between ending_at)),
        part-size n.ResourceDestination target_at (over n.SpaceOrTab r.between ending_at),
        over-size n.SpaceOrTab r.between ending_at,
        destination-size options r.is_literal (take r.destination (drop (1 + r.before) text)),
        ending-size options r (drop (r.destination + r.between) (drop (1 + r.before) text)),
      )

  pub resource-size : size (resource options text r) ≡
      1 + r.before + destination_len r.is_literal (take r.destination (drop (1 + r.before) text)) + r.between
      + ending_len r (drop (r.destination + r.between) (drop (1 + r.before) text))
  resource-size = omega (arith, part-size n.Resource held nothing, held-size)

  pub resource-shows : (at after start close quote end : ℕ) (old first second third new : List Span) →
      after ≡ at + 1 → start ≡ after + r.before →
      close ≡ start + destination_len r.is_literal (take r.destination (drop (1 + r.before) text)) →
      quote ≡ close + r.between →
      end ≡ quote + ending_len r (drop (r.destination + r.between) (drop (1 + r.before) text)) →
      first ≡
      old
      ++ span_of n.Resource at end ∷ span_of n.ResourceMarker at after ∷ span_of n.SpaceOrTab after start
      ∷ span_of n.ResourceDestination start close ∷ [] →
      Shows start first target_at second → third ≡ second ++ span_of n.SpaceOrTab close quote ∷ [] →
      Shows quote third ending_at new → Shows at old (resource options text r) new
  resource-shows at after start close quote end old first second third new o s c q e f d t l =
      record {
        own = span_of n.Resource at end
            ∷ span_of n.ResourceMarker at after
            ∷ span_of n.SpaceOrTab after start
            ∷ span_of n.ResourceDestination start close
            ∷ (d.own ++ (span_of n.SpaceOrTab close quote ∷ l.own));
        same = l.same
            ∙ ap (λ (x : List Span). x ++ l.own)
            (t
            ∙ ap (λ (x : List Span). x ++ span_of n.SpaceOrTab close quote ∷ [])
            (d.same ∙ ap (λ (x : List Span). x ++ d.own) f))
            ∙ joined old
            (span_of n.Resource at end ∷ span_of n.ResourceMarker at after ∷ span_of n.SpaceOrTab after start
            ∷ span_of n.ResourceDestination start close ∷ []) d.own (span_of n.SpaceOrTab close quote ∷ []) l.own;
        shown = (live-last at end n.Resource held _ (omega (arith, o, s, c, q, e, held-size))
            (live-over at after n.ResourceMarker 1 _ _ refl o
            (live-over after start n.SpaceOrTab r.before _ _ refl s
            (live-part start close n.ResourceDestination target_at (over n.SpaceOrTab r.between ending_at) d.own
            (span_of n.SpaceOrTab close quote ∷ l.own)
            (omega (
              arith,
              c,
              destination-size options r.is_literal (take r.destination (drop (1 + r.before) text)),
            )) (fits start target_at d.own d.shown)
            (live-over close quote n.SpaceOrTab r.between ending_at l.own refl q
            (fits quote ending_at l.own l.shown)))))).is;
      }
    where
      joined : (a b c d e : List Span) → (((a ++ b) ++ c) ++ d) ++ e ≡ a ++ (b ++ (c ++ (d ++ e)))
      joined a b c d e = grind (arith, append_assoc)

-- What a link or an image leads to is over the front of what follows it.
use Rattle.std.proofs.Common.{◌≡◌, ℕ, zero, suc, ◌+◌, ◌-◌, ◌<◌, ◌≤◌, Bool, true, false, cond, ◌&&◌, List, [], ◌∷◌}
use Rattle.std.proofs.Common.{length}
use Rattle.std.proofs.Common.{take, drop, refl, sym, ◌∙◌, subst, arith}
use Rattle.std.specs.Prelude.{◌==◌, not, nat_lt, Option, Some, None, option_map}
use Rattle.std.specs.List.{list_any}
use Rattle.std.proofs.lemmas.Bool.Decides.{nat_tests}
use Rattle.std.proofs.lemmas.List.{length-drop, length-take-le}
use Rattle.md_engine.specs.declared.event.Name.TheVariants as n
use Rattle.md_meaning.specs.Ascii.{greater_than, left_bracket, left_parenthesis, less_than, right_bracket}
use Rattle.md_meaning.specs.Ascii.{right_parenthesis}
use Rattle.md_meaning.specs.Definition as definition
use Rattle.md_meaning.specs.Enclosed.{Broken, Closed, Enclosed, Open, enclosed}
use Rattle.md_meaning.specs.Lines.{begins_with}
use Rattle.md_inline_events.specs.Forest.{Forest, has_names, nothing, over, part, size}
use Rattle.md_inlines.specs.Target.{after_gap, depth_after, destination_len, enclosed_len, ends_raw, gap_len}
use Rattle.md_inlines.specs.Target.{is_escaped_after, is_label, is_own_label, is_too_deep, label_len, last_gap}
use Rattle.md_inlines.specs.Target.{length_in, literal_len, raw_len, resource_at, title_after, title_len}
use Rattle.md_inlines.specs.Target.{with_destination}
use Rattle.md_inlines.specs.declared.InlineOptions.{InlineOptions}
use Rattle.md_inlines.specs.declared.Resource.{Resource}
use Rattle.md_inlines.proofs.HtmlLemmas.{length-after_gap}
use Rattle.md_inlines.proofs.TargetLemmas.{closed-length}
use Rattle.md_inlines.specs.Atoms.{beside, byte, escape_at, or_else, reference_forest, when}
use Rattle.md_inlines.specs.Targets.{destination, reference, reference_after, resource, resource_forest, short, string}
use Rattle.md_inlines.specs.Targets.{string_at_most, string_atom, target, title, title_part}
use Rattle.proof_inlines.specs.Sized.{IsFront, Over}
use Rattle.proof_inlines.proofs.AtomLemmas.{Fronts, begins-after, begins-some, either-front, escape-front}
use Rattle.proof_inlines.proofs.AtomLemmas.{reference-front, when-front}
use Rattle.proof_inlines.proofs.ContentForests.{beside-over, merged-over, nothing-over, over-over, own, part-over}
use Rattle.proof_inlines.proofs.ContentForests.{piece-over, same-over}

-- Strings.

string-atom-front : (options : InlineOptions) (text : List ℕ) → Fronts text (string_atom options text)
string-atom-front options text =
    either-front text (when options.constructs.character_escape (escape_at text))
    (when options.constructs.character_reference (reference_forest text))
    (when-front text options.constructs.character_escape (escape_at text) (escape-front text))
    (when-front text options.constructs.character_reference (reference_forest text) (reference-front text))

string-at-most : (options : InlineOptions) (more : ℕ) (text : List ℕ) → length text ≤ more →
    Over (string_at_most options more text) (length text)
string-at-most options zero [] h = nothing-over
string-at-most options zero (b ∷ text) h = absurd (omega (arith, h))
string-at-most options (suc more) [] h = nothing-over
string-at-most options (suc more) (b ∷ text) h =
    go (string_atom options (b ∷ text)) (string-atom-front options (b ∷ text)) (string-at-most options more)
  where
    go : (o : Option Forest) → Fronts (b ∷ text) o →
        ((rest : List ℕ) → length rest ≤ more → Over (string_at_most options more rest) (length rest)) →
        Over
        (elim o as (λ (_ : Option Forest). Forest) [
          | Some found ↦ beside found (string_at_most options more (drop (size found) (b ∷ text)))
          | None ↦ byte n.Data (string_at_most options more text)
        ])
        (suc (length text))
    go None fronts rec =
        same-over (byte n.Data (string_at_most options more text)) (1 + length text) (suc (length text)) (omega arith)
        (piece-over n.Data 0 (string_at_most options more text) (length text) refl (rec text (omega (arith, h))))
    go (Some found) fronts rec =
        let fact : IsFront (b ∷ text) found = fronts found refl in
        let left : length (drop (size found) (b ∷ text)) ≡ suc (length text) - size found =
        length-drop (size found) (b ∷ text) in
        same-over (beside found (string_at_most options more (drop (size found) (b ∷ text))))
        (size found + length (drop (size found) (b ∷ text))) (suc (length text)) (omega (arith, left, fact.within))
        (beside-over found (string_at_most options more (drop (size found) (b ∷ text))) (size found)
        (length (drop (size found) (b ∷ text))) (own found fact.names)
        (rec (drop (size found) (b ∷ text)) (omega (arith, left, fact.some, h))))

pub string-over : (options : InlineOptions) (text : List ℕ) → Over (string options text) (length text)
string-over options text =
    merged-over (string_at_most options (length text) text) (length text)
    (string-at-most options (length text) text (omega arith))

-- Between two marks of one byte each.
inner-length : (text : List ℕ) → 2 ≤ length text → length (take (length text - 2) (drop 1 text)) ≡ length text - 2
inner-length text h =
    length-take-le (length text - 2) (drop 1 text) (omega (arith, h, length-drop 1 text))

destination-over : (options : InlineOptions) (angles : Bool) (text : List ℕ) → (angles ≡ true → 2 ≤ length text) →
    Over (destination options angles text) (length text)
destination-over options true text h =
    let long : 2 ≤ length text = h refl in
    let inside : List ℕ = take (length text - 2) (drop 1 text) in
    let mark : Forest = byte n.ResourceDestinationLiteralMarker nothing in
    let last : Over mark 1 = record { sized = refl; names = refl } in
    let held = part-over n.ResourceDestinationString (string options inside) mark (length inside) 1 refl
    (string-over options inside) last in
    let all = piece-over n.ResourceDestinationLiteralMarker 0
    (part n.ResourceDestinationString (string options inside) mark) (length inside + 1) refl held in
    same-over (destination options true text) (1 + (length inside + 1) + 0) (length text)
    (omega (arith, long, inner-length text long))
    (part-over n.ResourceDestinationLiteral
    (byte n.ResourceDestinationLiteralMarker (part n.ResourceDestinationString (string options inside) mark)) nothing
    (1 + (length inside + 1)) 0 refl all nothing-over)
destination-over options false text h =
    let inner = part-over n.ResourceDestinationString (string options text) nothing (length text) 0 refl
    (string-over options text) nothing-over in
    same-over (destination options false text) (length text + 0 + 0) (length text) (omega arith)
    (part-over n.ResourceDestinationRaw (part n.ResourceDestinationString (string options text) nothing) nothing
    (length text + 0) 0 refl inner nothing-over)

title-over : (options : InlineOptions) (text : List ℕ) → 2 ≤ length text → Over (title options text) (length text)
title-over options text long =
    let inside : List ℕ = take (length text - 2) (drop 1 text) in
    let mark : Forest = byte n.ResourceTitleMarker nothing in
    let last : Over mark 1 = record { sized = refl; names = refl } in
    let held = part-over n.ResourceTitleString (string options inside) mark (length inside) 1 refl
    (string-over options inside) last in
    same-over (title options text) (1 + (length inside + 1)) (length text) (omega (arith, long, inner-length text long))
    (piece-over n.ResourceTitleMarker 0 (part n.ResourceTitleString (string options inside) mark) (length inside + 1)
    refl held)

-- Lengths of labels, destinations and titles.

enclosed-is : (opener closer : ℕ) (text : List ℕ) (len : ℕ) → enclosed_len opener closer text ≡ Some len →
    len < length text
enclosed-is opener closer text len is = go (enclosed opener closer false text) refl is
  where
    go : (e : Enclosed) → enclosed opener closer false text ≡ e → length_in e ≡ Some len → len < length text
    go (Closed inside rest) p is =
        let same : length inside ≡ len = cc in
        omega (arith, same, closed-length opener closer false text inside rest p)
    go Open p is = cc
    go Broken p is = cc

label-is : (text : List ℕ) (len : ℕ) → label_len text ≡ Some len → len < length text
unfolding label_len
label-is text len is =
    go (enclosed_len left_bracket right_bracket text) (enclosed-is left_bracket right_bracket text) is
  where
    go : (o : Option ℕ) → ((k : ℕ) → o ≡ Some k → k < length text) →
        elim o as (λ (_ : Option ℕ). Option ℕ) [
          | Some k ↦ cond (is_label (take k text)) (Some k) None
          | None ↦ None
        ] ≡ Some len → len < length text
    go None h is = cc
    go (Some k) h is = inner (is_label (take k text)) is
      where
        inner : (t : Bool) → cond t (Some k) None ≡ Some len → len < length text
        inner true is = let same : k ≡ len = cc in omega (arith, same, h k refl)
        inner false is = cc

literal-is : (text : List ℕ) (len : ℕ) → literal_len text ≡ Some len → len < length text
unfolding literal_len
literal-is text len is = go (enclosed_len less_than greater_than text) (enclosed-is less_than greater_than text) is
  where
    go : (o : Option ℕ) → ((k : ℕ) → o ≡ Some k → k < length text) →
        elim o as (λ (_ : Option ℕ). Option ℕ) [
          | Some k ↦ cond (list_any (λ b. b == 10) (take k text)) None (Some k)
          | None ↦ None
        ] ≡ Some len → len < length text
    go None h is = cc
    go (Some k) h is = inner (list_any (λ b. b == 10) (take k text)) is
      where
        inner : (t : Bool) → cond t None (Some k) ≡ Some len → len < length text
        inner true is = cc
        inner false is = let same : k ≡ len = cc in omega (arith, same, h k refl)

raw-is : (depth : ℕ) (escaped : Bool) (text : List ℕ) (len : ℕ) → raw_len depth escaped text ≡ Some len →
    len ≤ length text
unfolding raw_len
raw-is depth escaped [] len is = go (depth == 0) is
  where
    go : (t : Bool) → cond t (Some 0) None ≡ Some len → len ≤ 0
    go true is = let same : 0 ≡ len = cc in omega (arith, same)
    go false is = cc
raw-is depth escaped (b ∷ text) len is =
    go (ends_raw depth escaped b) (depth == 0) (is_too_deep depth escaped b)
    (raw_len (depth_after depth escaped b) (is_escaped_after escaped b) text)
    (raw-is (depth_after depth escaped b) (is_escaped_after escaped b) text) is
  where
    go : (x y z : Bool) (o : Option ℕ) → ((k : ℕ) → o ≡ Some k → k ≤ length text) →
        cond x (cond y (Some 0) None) (cond z None (option_map suc o)) ≡ Some len → len ≤ suc (length text)
    go true true z o h is = let same : 0 ≡ len = cc in omega (arith, same)
    go true false z o h is = cc
    go false y true o h is = cc
    go false y false None h is = cc
    go false y false (Some k) h is = let same : suc k ≡ len = cc in omega (arith, same, h k refl)

-- a destination: in angle brackets it has two bytes at least
destination-is : (text : List ℕ) (len : ℕ) → destination_len text ≡ Some len →
    (len ≤ length text) × (begins_with less_than text ≡ true → 2 ≤ len)
unfolding destination_len
destination-is text len is =
    go (begins_with less_than text) refl (literal_len (drop 1 text)) (literal-is (drop 1 text)) is
  where
    go : (t : Bool) → begins_with less_than text ≡ t → (o : Option ℕ) →
        ((k : ℕ) → o ≡ Some k → k < length (drop 1 text)) →
        cond t (option_map (λ (k : ℕ). k + 2) o) (raw_len 0 false text) ≡ Some len →
        (len ≤ length text) × (begins_with less_than text ≡ true → 2 ≤ len)
    go true b None h is = cc
    go true b (Some k) h is =
        let same : k + 2 ≡ len = cc in
        (omega (arith, same, h k refl, length-drop 1 text), λ e. omega (arith, same))
    go false b o h is =
        (raw-is 0 false text len is, λ e. let both : true ≡ false = sym e ∙ b in absurd (apart both))
      where
        apart : true ≡ false → ⊥
        apart e = cc

title-is : (text : List ℕ) (len : ℕ) → title_len text ≡ Some len → (2 ≤ len) × (len ≤ length text)
unfolding title_len
title-is [] len is = cc
title-is (b ∷ text) len is = go (definition.title_closer b) is
  where
    made : (closer : ℕ) (o : Option ℕ) → ((k : ℕ) → o ≡ Some k → k < length text) →
        option_map (λ (k : ℕ). k + 2) o ≡ Some len → (2 ≤ len) × (len ≤ suc (length text))
    made closer None h is = cc
    made closer (Some k) h is =
        let same : k + 2 ≡ len = cc in (omega (arith, same), omega (arith, same, h k refl))

    go : (o : Option ℕ) →
        elim o as (λ (_ : Option ℕ). Option ℕ) [
          | Some closer ↦ option_map (λ (k : ℕ). k + 2) (enclosed_len b closer text)
          | None ↦ None
        ] ≡ Some len → (2 ≤ len) × (len ≤ suc (length text))
    go None is = cc
    go (Some closer) is = made closer (enclosed_len b closer text) (enclosed-is b closer text) is

-- the title after a destination: none, or two bytes at least
title-after-is : (len gap : ℕ) (text : List ℕ) →
    (title_after len gap text ≤ length text) × (not (title_after len gap text == 0) ≡ true →
    2 ≤ title_after len gap text)
title-after-is len gap text = go (nat_lt 0 len && nat_lt 0 gap) (title_len text) (title-is text)
  where
    go : (t : Bool) (o : Option ℕ) → ((k : ℕ) → o ≡ Some k → (2 ≤ k) × (k ≤ length text)) →
        (cond t (elim o as (λ (_ : Option ℕ). ℕ) [ Some k ↦ k | None ↦ 0 ]) 0 ≤ length text) ×
        (not (cond t (elim o as (λ (_ : Option ℕ). ℕ) [ Some k ↦ k | None ↦ 0 ]) 0 == 0) ≡ true →
        2 ≤ cond t (elim o as (λ (_ : Option ℕ). ℕ) [ Some k ↦ k | None ↦ 0 ]) 0)
    go true None h = (omega arith, λ e. cc)
    go true (Some k) h = ((h k refl).1, λ e. (h k refl).0)
    go false o h = (omega arith, λ e. cc)

-- Resources.

-- after its `(`, a resource and its `)` are in a text
record ResIs (text : List ℕ) (r : Resource) : Type 0 where
  room : r.before + (r.destination + (r.between + (r.title + r.after))) < length text
  angles : r.is_literal ≡ true → 2 ≤ r.destination
  titled : not (r.title == 0) ≡ true → 2 ≤ r.title
  plain : (r.title == 0) ≡ true → r.after ≡ 0

same-res : (text : List ℕ) (r s : Resource) → Some r ≡ Some s → ResIs text r → ResIs text s
same-res text r s h is =
    let same : r ≡ s = cc in
    subst (ResIs text) same is

with-is : (text : List ℕ) (len : ℕ) (r : Resource) → len ≤ length (after_gap text) →
    (begins_with less_than (after_gap text) ≡ true → 2 ≤ len) → with_destination text len ≡ Some r → ResIs text r
with-is text len r within long is =
    go (begins_with right_parenthesis (drop after last)) refl is
  where
    rest : List ℕ
    rest = drop len (after_gap text)

    name : ℕ
    name = title_after len (gap_len (drop len (after_gap text))) (after_gap (drop len (after_gap text)))

    last : List ℕ
    last = drop (title_after len (gap_len (drop len (after_gap text))) (after_gap (drop len (after_gap text))))
        (after_gap (drop len (after_gap text)))

    after : ℕ
    after = last_gap name last

    made : Resource
    made = record {
      before = gap_len text;
      destination = len;
      is_literal = begins_with less_than (after_gap text);
      between = gap_len rest;
      title = name;
      after = after;
    }

    gap-none : (k : ℕ) (xs : List ℕ) → (k == 0) ≡ true → last_gap k xs ≡ 0
    gap-none k xs e = rw e refl

    go : (t : Bool) → begins_with right_parenthesis (drop after last) ≡ t → cond t (Some made) None ≡ Some r →
        ResIs text r
    go false b is = cc
    go true b is =
        let fact = title-after-is len (gap_len rest) (after_gap rest) in
        let ends : after < length last = begins-after right_parenthesis after last b in
        let cut : length last ≡ length (after_gap rest) - name = length-drop name (after_gap rest) in
        let left : length rest ≡ length (after_gap text) - len = length-drop len (after_gap text) in
        same-res text made r is
        (record {
          room = omega (arith, within, ends, cut, left, fact.0, length-after_gap rest, length-after_gap text);
          angles = long;
          titled = fact.1;
          plain = gap-none name last;
        })

resource-at-is : (text : List ℕ) (r : Resource) → resource_at text ≡ Some r → ResIs text r
unfolding resource_at
resource-at-is text r is = go (destination_len (after_gap text)) (destination-is (after_gap text)) is
  where
    go : (o : Option ℕ) →
        ((len : ℕ) → o ≡ Some len →
        (len ≤ length (after_gap text)) × (begins_with less_than (after_gap text) ≡ true → 2 ≤ len)) →
        elim o as (λ (_ : Option ℕ). Option Resource) [ Some len ↦ with_destination text len | None ↦ None ] ≡ Some r →
        ResIs text r
    go None h is = cc
    go (Some len) h is = let fact = h len refl in with-is text len r fact.0 fact.1 is

title-part-over : (options : InlineOptions) (r : Resource) (text : List ℕ) (following : Forest) (count : ℕ) →
    Over following count → r.title ≤ length text → (not (r.title == 0) ≡ true → 2 ≤ r.title) →
    ((r.title == 0) ≡ true → r.after ≡ 0) → Over (title_part options r text following) (r.title + (r.after + count))
title-part-over options r text following count f room titled plain = go (r.title == 0) refl
  where
    whole : ℕ → Forest → Forest
    whole len after = part n.ResourceTitle (title options (take len text)) after

    go : (t : Bool) → (r.title == 0) ≡ t →
        Over
        (cond t following (part n.ResourceTitle (title options (take r.title text))
        (over n.SpaceOrTab r.after following)))
        (r.title + (r.after + count))
    go true e =
        let none : r.title ≡ 0 = grind (arith, nat_tests) in
        same-over following count (r.title + (r.after + count)) (omega (arith, none, plain e)) f
    go false e =
        let some : not (r.title == 0) ≡ true = rw e refl in
        let long : 2 ≤ r.title = titled some in
        let cut : length (take r.title text) ≡ r.title = length-take-le r.title text room in
        let inner = title-over options (take r.title text) (omega (arith, long, cut)) in
        let next = over-over n.SpaceOrTab r.after following count refl f in
        same-over
        (part n.ResourceTitle (title options (take r.title text)) (over n.SpaceOrTab r.after following))
        (length (take r.title text) + (r.after + count)) (r.title + (r.after + count)) (omega (arith, cut))
        (part-over n.ResourceTitle (title options (take r.title text)) (over n.SpaceOrTab r.after following)
        (length (take r.title text)) (r.after + count) refl inner next)

resource-over : (options : InlineOptions) (text : List ℕ) (r : Resource) → ResIs (drop 1 text) r →
    Over (resource options text r) (2 + (r.before + (r.destination + (r.between + (r.title + r.after)))))
resource-over options text r is =
    let rest : List ℕ = drop (1 + r.before) text in
    let left : length rest ≡ length text - (1 + r.before) = length-drop (1 + r.before) text in
    let all : length (drop 1 text) ≡ length text - 1 = length-drop 1 text in
    let mark : Forest = byte n.ResourceMarker nothing in
    let last : Over mark 1 = record { sized = refl; names = refl } in
    let tail : List ℕ = drop (r.destination + r.between) rest in
    let tail_left : length tail ≡ length rest - (r.destination + r.between) =
    length-drop (r.destination + r.between) rest in
    let titles : Over (title_part options r tail mark) (r.title + (r.after + 1)) =
    title-part-over options r tail mark 1 last (omega (arith, is.room, left, all, tail_left)) is.titled is.plain in
    let spaces = over-over n.SpaceOrTab r.between (title_part options r tail mark) (r.title + (r.after + 1)) refl
    titles in
    let cut : length (take r.destination rest) ≡ r.destination =
    length-take-le r.destination rest (omega (arith, is.room, left, all)) in
    let inner = destination-over options r.is_literal (take r.destination rest)
    (λ e. let two : 2 ≤ r.destination = is.angles e in omega (arith, two, cut)) in
    let held = part-over n.ResourceDestination (destination options r.is_literal (take r.destination rest))
    (over n.SpaceOrTab r.between (title_part options r tail mark)) (length (take r.destination rest))
    (r.between + (r.title + (r.after + 1))) refl inner spaces in
    let body : Forest = part n.ResourceDestination (destination options r.is_literal (take r.destination rest))
    (over n.SpaceOrTab r.between (title_part options r tail mark)) in
    let first = over-over n.SpaceOrTab r.before body
    (length (take r.destination rest) + (r.between + (r.title + (r.after + 1)))) refl held in
    let opened = piece-over n.ResourceMarker 0 (over n.SpaceOrTab r.before body)
    (r.before + (length (take r.destination rest) + (r.between + (r.title + (r.after + 1))))) refl first in
    same-over (resource options text r)
    (1 + (r.before + (length (take r.destination rest) + (r.between + (r.title + (r.after + 1))))) + 0)
    (2 + (r.before + (r.destination + (r.between + (r.title + r.after))))) (omega (arith, cut))
    (part-over n.Resource (byte n.ResourceMarker (over n.SpaceOrTab r.before body)) nothing
    (1 + (r.before + (length (take r.destination rest) + (r.between + (r.title + (r.after + 1)))))) 0 refl opened
    nothing-over)

-- over the front of a text, perhaps over nothing
record Leads (text : List ℕ) (forest : Forest) : Type 0 where
  within : size forest ≤ length text
  names : has_names forest ≡ true

same-leads : (text : List ℕ) (f g : Forest) → Some f ≡ Some g → Leads text f → Leads text g
same-leads text f g h is =
    let same : f ≡ g = cc in
    subst (Leads text) same is

leads-over : (text : List ℕ) (forest : Forest) (count : ℕ) → Over forest count → count ≤ length text → Leads text forest
leads-over text forest count f within = record { within = omega (arith, f.sized, within); names = f.names }

resource-leads : (options : InlineOptions) (text : List ℕ) (found : Forest) → resource_forest options text ≡
    Some found →
    Leads text found
resource-leads options text found is =
    go (begins_with left_parenthesis text) refl (resource_at (drop 1 text)) (resource-at-is (drop 1 text)) is
  where
    go : (t : Bool) → begins_with left_parenthesis text ≡ t → (o : Option Resource) →
        ((r : Resource) → o ≡ Some r → ResIs (drop 1 text) r) →
        cond t (option_map (resource options text) o) None ≡ Some found → Leads text found
    go true b None h is = cc
    go true b (Some r) h is =
        let fact : ResIs (drop 1 text) r = h r refl in
        same-leads text (resource options text r) found is
        (leads-over text (resource options text r) (2 + (r.before + (r.destination +
        (r.between + (r.title + r.after)))))
        (resource-over options text r fact)
        (omega (arith, fact.room, length-drop 1 text, begins-some left_parenthesis text b)))
    go false b o h is = cc

reference-over : (options : InlineOptions) (label : List ℕ) → Over (reference options label) (length label + 2)
reference-over options label =
    let mark : Forest = byte n.ReferenceMarker nothing in
    let last : Over mark 1 = record { sized = refl; names = refl } in
    let held = part-over n.ReferenceString (string options label) mark (length label) 1 refl (string-over options label)
    last in
    let all = piece-over n.ReferenceMarker 0 (part n.ReferenceString (string options label) mark) (length label + 1)
    refl
    held in
    same-over (reference options label) (1 + (length label + 1) + 0) (length label + 2) (omega arith)
    (part-over n.Reference (byte n.ReferenceMarker (part n.ReferenceString (string options label) mark)) nothing
    (1 + (length label + 1)) 0 refl all nothing-over)

module _ (options : InlineOptions) (is_definition : List ℕ → Bool) where
  short-leads : (inside after : List ℕ) (found : Forest) → short options is_definition inside after ≡ Some found →
      Leads after found
  short-leads inside after found is =
      go (not (is_own_label inside && is_definition inside)) (begins_with left_bracket after)
      (begins_with right_bracket (drop 1 after)) refl is
    where
      go : (x y z : Bool) → begins_with right_bracket (drop 1 after) ≡ z →
          cond x None (cond (y && z) (Some (reference options [])) (Some nothing)) ≡ Some found → Leads after found
      go true y z e is = cc
      go false true true e is =
          same-leads after (reference options []) found is
          (leads-over after (reference options []) (0 + 2) (reference-over options [])
          (omega (arith, begins-after right_bracket 1 after e)))
      go false true false e is =
          same-leads after nothing found is (leads-over after nothing 0 nothing-over (omega arith))
      go false false z e is =
          same-leads after nothing found is (leads-over after nothing 0 nothing-over (omega arith))

  reference-leads : (inside after : List ℕ) (found : Forest) →
      reference_after options is_definition inside after ≡ Some found → Leads after found
  reference-leads inside after found is =
      go (begins_with left_bracket after) (label_len (drop 1 after)) (label-is (drop 1 after)) is
    where
      labelled : (len : ℕ) → len < length (drop 1 after) → (t : Bool) →
          cond t (Some (reference options (take len (drop 1 after)))) None ≡ Some found → Leads after found
      labelled len room true is =
          same-leads after (reference options (take len (drop 1 after))) found is
          (leads-over after (reference options (take len (drop 1 after))) (length (take len (drop 1 after)) + 2)
          (reference-over options (take len (drop 1 after)))
          (omega (arith, room, length-take-le len (drop 1 after) (omega (arith, room)), length-drop 1 after)))
      labelled len room false is = cc

      go : (t : Bool) (o : Option ℕ) → ((len : ℕ) → o ≡ Some len → len < length (drop 1 after)) →
          elim (cond t o None) as (λ (_ : Option ℕ). Option Forest) [
            | None ↦ short options is_definition inside after
            | Some len ↦ cond (is_definition (take len (drop 1 after)))
                (Some (reference options (take len (drop 1 after)))) None
          ] ≡ Some found → Leads after found
      go true None h is = short-leads inside after found is
      go true (Some len) h is = labelled len (h len refl) (is_definition (take len (drop 1 after))) is
      go false o h is = short-leads inside after found is

  -- what a link or an image leads to
  pub target-leads : (inside after : List ℕ) (leads : Forest) → target options is_definition inside after ≡ Some leads →
      (size leads ≤ length after) × (has_names leads ≡ true)
  target-leads inside after leads is = go (resource_forest options after) (resource-leads options after) is
    where
      go : (o : Option Forest) → ((f : Forest) → o ≡ Some f → Leads after f) →
          or_else o (reference_after options is_definition inside after) ≡ Some leads →
          (size leads ≤ length after) × (has_names leads ≡ true)
      go None h is = let fact : Leads after leads = reference-leads inside after leads is in (fact.within, fact.names)
      go (Some f) h is =
          let fact : Leads after leads = same-leads after f leads is (h f refl) in (fact.within, fact.names)

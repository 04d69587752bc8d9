-- Atoms are at the front of their text, and not empty.
use Rattle.std.proofs.Common.{◌≡◌, ℕ, zero, suc, ◌+◌, ◌<◌, ◌≤◌, Bool, true, false, cond, ◌&&◌, List, [], ◌∷◌, length}
use Rattle.std.proofs.Common.{drop, refl, ap, sym, subst, arith}
use Rattle.std.specs.Prelude.{◌==◌, ◌||◌, not, nat_le, Option, Some, None, option_map}
use Rattle.std.specs.Char.{is_ascii_alphanumeric, is_ascii_digit, is_ascii_hexdigit}
use Rattle.std.specs.List.{prefix_len, take_while}
use Rattle.std.proofs.lemmas.Bool.Decides.{nat_tests}
use Rattle.std.proofs.lemmas.List.{length-drop}
use Rattle.std.proofs.lemmas.List.Sums.{prefix_len-le-length}
use Rattle.md_engine.specs.declared.event.Name.{Name}
use Rattle.md_engine.specs.declared.event.Name.TheVariants as n
use Rattle.md_entities.specs.Names.{is_name}
use Rattle.md_meaning.specs.Ascii.{backslash, hash}
use Rattle.md_meaning.specs.Lines.{begins_with}
use Rattle.md_meaning.specs.Rest.{run_len}
use Rattle.md_inline_events.specs.Forest.{Forest, nothing, over, size}
use Rattle.md_inline_events.specs.Marks.{is_part_name}
use Rattle.md_inlines.specs.Code.{before_run, raw_at}
use Rattle.md_inlines.specs.Escape.{ampersand, is_escape, name_len, numeric, reference_at, semicolon, value_len}
use Rattle.md_inlines.specs.Escape.{with_markers}
use Rattle.md_inlines.specs.declared.Raw.{Raw}
use Rattle.md_inlines.specs.declared.Reference.{Reference}
use Rattle.md_inlines.specs.Atoms.{byte, escape, escape_at, markers, or_else, raw, raw_or_text, reference}
use Rattle.md_inlines.specs.Atoms.{reference_forest}
use Rattle.md_inlines.specs.Atoms.{when}
use Rattle.proof_inlines.specs.Sized.{IsFront, Over}
use Rattle.proof_inlines.proofs.ContentForests.{nothing-over, over-over, part-over, piece-over, same-over}

-- a forest over so many bytes, which a text has
pub front : (text : List ℕ) (forest : Forest) (count : ℕ) → Over forest count → 0 < count → count ≤ length text →
    IsFront text forest
front text forest count f some within = record {
  some = omega (arith, f.sized, some);
  within = omega (arith, f.sized, within);
  names = f.names;
}

pub same-front : (text : List ℕ) (f g : Forest) → Some f ≡ Some g → IsFront text f → IsFront text g
same-front text f g h is =
    let same : f ≡ g = cc in
    subst (IsFront text) same is

-- what each of two readers of atoms owes, their choice owes
abbrev pub Fronts : List ℕ → Option Forest → Type 0
Fronts text o = (found : Forest) → o ≡ Some found → IsFront text found

pub either-front : (text : List ℕ) (o p : Option Forest) → Fronts text o → Fronts text p → Fronts text (or_else o p)
either-front text (Some f) p h k found is = same-front text f found is (h f refl)
either-front text None p h k found is = k found is

pub when-front : (text : List ℕ) (on : Bool) (o : Option Forest) → Fronts text o → Fronts text (when on o)
when-front text true o h found is = h found is
when-front text false o h found is = cc

-- a byte that comes first is there
pub begins-some : (b : ℕ) (text : List ℕ) → begins_with b text ≡ true → 0 < length text
begins-some b [] h = cc
begins-some b (c ∷ text) h = omega arith

pub begins-after : (b k : ℕ) (text : List ℕ) → begins_with b (drop k text) ≡ true → k < length text
begins-after b k text h =
    let some : 0 < length (drop k text) = begins-some b (drop k text) h in
    omega (arith, some, length-drop k text)

-- Escapes and references.

escape-over : Over escape 2
escape-over = record { sized = refl; names = refl }

escape-long : (text : List ℕ) → is_escape text ≡ true → 2 ≤ length text
escape-long [] h = cc
escape-long (b ∷ []) h = go (b == backslash) h
  where
    go : (t : Bool) → (t && false) ≡ true → 2 ≤ 1
    go true e = cc
    go false e = cc
escape-long (b ∷ c ∷ text) h = omega arith

pub escape-front : (text : List ℕ) → Fronts text (escape_at text)
escape-front text found is = go (is_escape text) refl is
  where
    go : (t : Bool) → is_escape text ≡ t → cond t (Some escape) None ≡ Some found → IsFront text found
    go true e is =
        same-front text escape found is (front text escape 2 escape-over (omega arith) (escape-long text e))
    go false e is = cc

-- a number or a name, and a `;`
record IsValue (text : List ℕ) (len : ℕ) : Type 0 where
  within : len < length text

value-is : (test : ℕ → Bool) (most : ℕ) (text : List ℕ) (len : ℕ) → value_len test most text ≡ Some len →
    len < length text
value-is test most text len is =
    go (nat_le 1 (prefix_len test text) && nat_le (prefix_len test text) most)
    (begins_with semicolon (drop (prefix_len test text) text)) refl is
  where
    go : (x y : Bool) → begins_with semicolon (drop (prefix_len test text) text) ≡ y →
        cond (x && y) (Some (prefix_len test text)) None ≡ Some len → len < length text
    go true true e is =
        let same : prefix_len test text ≡ len = cc in
        omega (arith, same, begins-after semicolon (prefix_len test text) text e)
    go true false e is = cc
    go false y e is = cc

name-is : (text : List ℕ) (len : ℕ) → name_len text ≡ Some len → len < length text
name-is text len is =
    go (begins_with semicolon (drop (prefix_len is_ascii_alphanumeric text) text)) refl
    (is_name (take_while is_ascii_alphanumeric text)) is
  where
    go : (x : Bool) → begins_with semicolon (drop (prefix_len is_ascii_alphanumeric text) text) ≡ x → (y : Bool) →
        cond (x && y) (Some (prefix_len is_ascii_alphanumeric text)) None ≡ Some len → len < length text
    go true e true is =
        let same : prefix_len is_ascii_alphanumeric text ≡ len = cc in
        omega (arith, same, begins-after semicolon (prefix_len is_ascii_alphanumeric text) text e)
    go true e false is = cc
    go false e y is = cc

record RefIs (text : List ℕ) (r : Reference) : Type 0 where
  within : r.markers + r.value < length text

same-ref : (text : List ℕ) (r s : Reference) → Some r ≡ Some s → RefIs text r → RefIs text s
same-ref text r s h is =
    let same : r ≡ s = cc in
    subst (RefIs text) same is

markers-is : (text : List ℕ) (m k : ℕ) (o : Option ℕ) (r : Reference) → m + k ≤ length text →
    ((len : ℕ) → o ≡ Some len → len < k) → with_markers m o ≡ Some r → RefIs text r
markers-is text m k None r room h is = cc
markers-is text m k (Some len) r room h is =
    same-ref text (record { markers = m; value = len }) r is
    (record { within = omega (arith, room, h len refl) })

numeric-is : (text : List ℕ) (r : Reference) → numeric text ≡ Some r → r.markers + r.value < suc (length text)
numeric-is [] r is = cc
numeric-is (b ∷ text) r is = go ((b == 120) || (b == 88)) is
  where
    go : (t : Bool) →
        cond t (with_markers 2 (value_len is_ascii_hexdigit 6 text)) (with_markers 1
        (value_len is_ascii_digit 7 (b ∷ text))) ≡
        Some r → r.markers + r.value < suc (suc (length text))
    go true is =
        let fact : RefIs (0 ∷ b ∷ text) r =
        markers-is (0 ∷ b ∷ text) 2 (length text) (value_len is_ascii_hexdigit 6 text) r (omega arith)
        (value-is is_ascii_hexdigit 6 text) is in
        fact.within
    go false is =
        let fact : RefIs (0 ∷ b ∷ text) r =
        markers-is (0 ∷ b ∷ text) 1 (suc (length text)) (value_len is_ascii_digit 7 (b ∷ text)) r (omega arith)
        (value-is is_ascii_digit 7 (b ∷ text)) is in
        fact.within

reference-is : (text : List ℕ) (r : Reference) → reference_at text ≡ Some r → r.markers + r.value < length text
unfolding reference_at
reference-is [] r is = cc
reference-is (b ∷ text) r is = go (b == hash) is
  where
    go : (t : Bool) → cond t (numeric text) (with_markers 0 (name_len (b ∷ text))) ≡ Some r →
        r.markers + r.value < suc (length text)
    go true is = numeric-is text r is
    go false is =
        let fact : RefIs (b ∷ text) r =
        markers-is (b ∷ text) 0 (suc (length text)) (name_len (b ∷ text)) r (omega arith) (name-is (b ∷ text)) is in
        fact.within

markers-over : (k : ℕ) (following : Forest) (count : ℕ) → Over following count → Over (markers k following) (k + count)
markers-over zero following count f = record { sized = omega (arith, f.sized); names = f.names }
markers-over (suc zero) following count f = piece-over n.CharacterReferenceMarkerNumeric 0 following count refl f
markers-over (suc (suc more)) following count f =
    same-over (markers (suc (suc more)) following) (1 + (suc more + count)) (suc (suc more) + count) (omega arith)
    (piece-over n.CharacterReferenceMarkerNumeric 0 (over n.CharacterReferenceMarkerHexadecimal (suc more) following)
    (suc more + count) refl (over-over n.CharacterReferenceMarkerHexadecimal (suc more) following count refl f))

reference-over : (r : Reference) → Over (reference r) (r.markers + r.value + 2)
reference-over r =
    let semi : Forest = byte n.CharacterReferenceMarkerSemi nothing in
    let last : Over semi 1 = record { sized = refl; names = refl } in
    let value = over-over n.CharacterReferenceValue r.value semi 1 refl last in
    let marked = markers-over r.markers (over n.CharacterReferenceValue r.value semi) (r.value + 1) value in
    let whole : Forest = markers r.markers (over n.CharacterReferenceValue r.value semi) in
    let all = piece-over n.CharacterReferenceMarker 0 whole (r.markers + (r.value + 1)) refl marked in
    same-over (reference r) (1 + (r.markers + (r.value + 1)) + 0) (r.markers + r.value + 2) (omega arith)
    (part-over n.CharacterReference (byte n.CharacterReferenceMarker whole) nothing
    (1 + (r.markers + (r.value + 1))) 0 refl all nothing-over)

pub reference-front : (text : List ℕ) → Fronts text (reference_forest text)
reference-front text found is =
    go (begins_with ampersand text) refl (reference_at (drop 1 text)) refl is
  where
    go : (t : Bool) → begins_with ampersand text ≡ t → (o : Option Reference) → reference_at (drop 1 text) ≡ o →
        cond t (option_map reference o) None ≡ Some found → IsFront text found
    go true b None e is = cc
    go true b (Some r) e is =
        same-front text (reference r) found is
        (front text (reference r) (r.markers + r.value + 2) (reference-over r) (omega arith)
        (omega (arith, reference-is (drop 1 text) r e, length-drop 1 text, begins-some ampersand text b)))
    go false b o e is = cc

-- Code spans and math.

run-within : (mark : ℕ) (text : List ℕ) → run_len mark text ≤ length text
run-within mark text = prefix_len-le-length (λ b. b == mark) text

before-is : (mark size : ℕ) (within : Bool) (text : List ℕ) (len : ℕ) → before_run mark size within text ≡ Some len →
    len + size ≤ length text
before-is mark size within [] len is = cc
before-is mark size within (b ∷ text) len is =
    go ((b == mark) && not within) (run_len mark (b ∷ text) == size) refl (before_run mark size (b == mark) text)
    (before-is mark size (b == mark) text) is
  where
    go : (x y : Bool) → (run_len mark (b ∷ text) == size) ≡ y → (o : Option ℕ) →
        ((k : ℕ) → o ≡ Some k → k + size ≤ length text) → cond (x && y) (Some 0) (option_map suc o) ≡ Some len →
        len + size ≤ suc (length text)
    go true true e o rec is =
        let same : 0 ≡ len = cc in
        let size_is : run_len mark (b ∷ text) ≡ size = grind (arith, nat_tests) in
        omega (arith, same, size_is, run-within mark (b ∷ text))
    go true false e None rec is = cc
    go true false e (Some k) rec is = let same : suc k ≡ len = cc in omega (arith, same, rec k refl)
    go false y e None rec is = cc
    go false y e (Some k) rec is = let same : suc k ≡ len = cc in omega (arith, same, rec k refl)

raw-is : (mark : ℕ) (text : List ℕ) (r : Raw) → raw_at mark text ≡ Some r →
    (r.size ≡ run_len mark text) × (r.size + (r.inside + r.size) ≤ length text)
unfolding raw_at
raw-is mark text r is =
    go (before_run mark (run_len mark text) false (drop (run_len mark text) text))
    (before-is mark (run_len mark text) false (drop (run_len mark text) text)) is
  where
    go : (o : Option ℕ) →
        ((k : ℕ) → o ≡ Some k → k + run_len mark text ≤ length (drop (run_len mark text) text)) →
        option_map (λ (len : ℕ). record { size = run_len mark text; inside = len }) o ≡ Some r →
        (r.size ≡ run_len mark text) × (r.size + (r.inside + r.size) ≤ length text)
    go None h is = cc
    go (Some k) h is =
        let made : Raw = record { size = run_len mark text; inside = k } in
        let same : made ≡ r = cc in
        let size_is : run_len mark text ≡ r.size = ap (λ (x : Raw). x.size) same in
        let inside_is : k ≡ r.inside = ap (λ (x : Raw). x.inside) same in (
          sym size_is,
          omega (
            arith,
            size_is,
            inside_is,
            h k refl,
            length-drop (run_len mark text) text,
            run-within mark text,
          ),
        )

raw-over : (whole sequence inner : Name) (r : Raw) → is_part_name whole ≡ true → is_part_name sequence ≡ true →
    is_part_name inner ≡ true → Over (raw whole sequence inner r) (r.size + (r.inside + r.size))
raw-over whole sequence inner r w s i =
    let last : Over (over sequence r.size nothing) (r.size + 0) = over-over sequence r.size nothing 0 s nothing-over in
    let middle = over-over inner r.inside (over sequence r.size nothing) (r.size + 0) i last in
    let held : Forest = over inner r.inside (over sequence r.size nothing) in
    let all = over-over sequence r.size held (r.inside + (r.size + 0)) s middle in
    same-over (raw whole sequence inner r) (r.size + (r.inside + (r.size + 0)) + 0) (r.size + (r.inside + r.size))
    (omega arith)
    (part-over whole (over sequence r.size held) nothing (r.size + (r.inside + (r.size + 0))) 0 w all nothing-over)

begins-run : (mark : ℕ) (text : List ℕ) → begins_with mark text ≡ true → 0 < run_len mark text
begins-run mark [] h = cc
begins-run mark (b ∷ text) h = go (b == mark) h
  where
    go : (t : Bool) → t ≡ true → 0 < cond t (1 + run_len mark text) 0
    go true e = omega arith
    go false e = cc

pub raw-front : (whole sequence inner : Name) (mark : ℕ) (text : List ℕ) → is_part_name whole ≡ true →
    is_part_name sequence ≡ true → is_part_name inner ≡ true → begins_with mark text ≡ true →
    IsFront text (raw_or_text (raw whole sequence inner) mark text)
raw-front whole sequence inner mark text w s i b = go (raw_at mark text) refl
  where
    go : (o : Option Raw) → raw_at mark text ≡ o →
        IsFront text
        (elim o as (λ (_ : Option Raw). Forest) [
          | Some r ↦ raw whole sequence inner r
          | None ↦ over n.Data (run_len mark text) nothing
        ])
    go (Some r) e =
        let fact = raw-is mark text r e in
        front text (raw whole sequence inner r) (r.size + (r.inside + r.size)) (raw-over whole sequence inner r w s i)
        (omega (arith, fact.0, begins-run mark text b)) fact.1
    go None e =
        front text (over n.Data (run_len mark text) nothing) (run_len mark text + 0)
        (over-over n.Data (run_len mark text) nothing 0 refl nothing-over)
        (omega (arith, begins-run mark text b)) (omega (arith, run-within mark text))

-- The marks of a forest are marks of its text, so its events are what every inline layer promises.
use Rattle.std.proofs.Common.{◌≡◌, ℕ, zero, suc, true, ◌&&◌, List, [], ◌∷◌, ◌++◌}
use Rattle.std.proofs.Common.{refl, ap, sym, ◌∙◌, subst, append_assoc}
use Rattle.std.specs.List.{list_all}
use Rattle.std.proofs.lemmas.Bool.{and_parts, and_from}
use Rattle.md_engine.specs.declared.event.Name.{Name}
use Rattle.md_events.specs.declared.inline.PartKind.{PartKind}
use Rattle.md_events.specs.Events.Inline.{Framed, IsPart, KeepsFrame, Part}
use Rattle.md_inline_events.specs.Woven.{read_text, woven_events}
use Rattle.md_inline_events.specs.Forest.{Forest, IsForestOf, back_within, bare, begin, finish, front_within}
use Rattle.md_inline_events.specs.Forest.{has_names, marks, nothing, part, piece}
use Rattle.md_inline_events.specs.Marks.{Back, Front, Mark, begins, closes_in, ends, is_part_name, opens_in}
use Rattle.md_inline_events.specs.Marks.{passes, stays}
use Rattle.proof_inlines.proofs.Named.{AreMarks, Runs, are_back_names, are_front_names, is_named, opened}
use Rattle.proof_inlines.proofs.FramedLemmas.{marks-framed}
use Rattle.proof_inlines.proofs.LineLemmas.{named-back, named-front, named-opens}

-- Names.

all-marks : (xs ys : List Mark) → list_all is_named xs ≡ true → list_all is_named ys ≡ true →
    list_all is_named (xs ++ ys) ≡ true
all-marks [] ys h k = k
all-marks (mark ∷ xs) ys h k =
    let parts : (is_named mark ≡ true) × (list_all is_named xs ≡ true) = and_parts (is_named mark)
    (list_all is_named xs) h in
    and_from (is_named mark) (list_all is_named (xs ++ ys)) parts.0 (all-marks xs ys parts.1 k)

bare-named : (count : ℕ) → list_all is_named (bare count) ≡ true
bare-named zero = refl
bare-named (suc more) = bare-named more

following-named : (name : Name) (front : Front) → is_part_name name ≡ true → are_front_names front ≡ true →
    are_front_names (front_within name front name) ≡ true
following-named name passes h k =
    and_from (is_part_name name) (is_part_name name && true) h (and_from (is_part_name name) true h refl)
following-named name (begins opens first) h k =
    let parts = named-opens opens first k in
    and_from (is_part_name first) (is_part_name name && list_all is_part_name opens) parts.0
    (and_from (is_part_name name) (list_all is_part_name opens) h parts.1)

names-append : (xs ys : List Name) → list_all is_part_name xs ≡ true → list_all is_part_name ys ≡ true →
    list_all is_part_name (xs ++ ys) ≡ true
names-append [] ys h k = k
names-append (name ∷ xs) ys h k =
    let parts : (is_part_name name ≡ true) × (list_all is_part_name xs ≡ true) = and_parts (is_part_name name)
    (list_all is_part_name xs) h in
    and_from (is_part_name name) (list_all is_part_name (xs ++ ys)) parts.0 (names-append xs ys parts.1 k)

before-named : (name : Name) (back : Back) → is_part_name name ≡ true → are_back_names back ≡ true →
    are_back_names (back_within name back) ≡ true
before-named name stays h k = and_from (is_part_name name) true h refl
before-named name (ends closes) h k =
    names-append closes (name ∷ []) k (and_from (is_part_name name) true h refl)

begin-named : (name : Name) (marks : List Mark) → is_part_name name ≡ true → list_all is_named marks ≡ true →
    list_all is_named (begin name marks) ≡ true
begin-named name [] h k = refl
begin-named name (mark ∷ marks) h k =
    let parts : (is_named mark ≡ true) × (list_all is_named marks ≡ true) = and_parts (is_named mark)
    (list_all is_named marks) k in
    and_from (are_front_names (front_within name mark.front name) && are_back_names mark.back) (list_all is_named marks)
    (and_from (are_front_names (front_within name mark.front name)) (are_back_names mark.back)
    (following-named name mark.front h (named-front mark parts.0)) (named-back mark parts.0)) parts.1

finish-named : (name : Name) (marks : List Mark) → is_part_name name ≡ true → list_all is_named marks ≡ true →
    list_all is_named (finish name marks) ≡ true
finish-named name [] h k = refl
finish-named name (mark ∷ []) h k =
    let parts : (is_named mark ≡ true) × (true ≡ true) = and_parts (is_named mark) true k in
    and_from (are_front_names mark.front && are_back_names (back_within name mark.back)) true
    (and_from (are_front_names mark.front) (are_back_names (back_within name mark.back)) (named-front mark parts.0)
    (before-named name mark.back h (named-back mark parts.0))) refl
finish-named name (mark ∷ next ∷ marks) h k =
    let parts : (is_named mark ≡ true) × (list_all is_named (next ∷ marks) ≡ true) = and_parts (is_named mark)
    (list_all is_named (next ∷ marks)) k in
    and_from (is_named mark) (list_all is_named (finish name (next ∷ marks))) parts.0
    (finish-named name (next ∷ marks) h parts.1)

pub forest-named : (forest : Forest) → has_names forest ≡ true → list_all is_named (marks forest) ≡ true
forest-named nothing h = refl
forest-named (piece name more following) h =
    let parts : (is_part_name name ≡ true) × (has_names following ≡ true) = and_parts (is_part_name name)
    (has_names following) h in
    and_from ((is_part_name name && true) && true) (list_all is_named (bare more ++ marks following))
    (and_from (is_part_name name && true) true (and_from (is_part_name name) true parts.0 refl) refl)
    (all-marks (bare more) (marks following) (bare-named more) (forest-named following parts.1))
forest-named (part name inside following) h =
    let outer : (is_part_name name ≡ true) × (has_names inside && has_names following ≡ true) = and_parts
    (is_part_name name) (has_names inside && has_names following) h in
    let inner : (has_names inside ≡ true) × (has_names following ≡ true) = and_parts (has_names inside) (has_names
    following)
    outer.1 in
    all-marks (finish name (begin name (marks inside))) (marks following)
    (finish-named name (begin name (marks inside)) outer.0
    (begin-named name (marks inside) outer.0 (forest-named inside inner.0))) (forest-named following inner.1)

-- Runs.

runs-append : (names mid end : List Name) (xs ys : List Mark) → Runs names xs mid → Runs mid ys end →
    Runs names (xs ++ ys) end
runs-append names mid end [] ys h k = subst (λ (l : List Name). Runs l ys end) (sym h) k
runs-append names mid end (mark ∷ xs) ys h k = (h.0, h.1, runs-append h.0 mid end xs ys h.2 k)

runs-bare : (names : List Name) (count : ℕ) → Runs names (bare count) names
runs-bare names zero = refl
runs-bare names (suc more) = (names, refl, runs-bare names more)

-- What is open around some bytes does not matter to them.

opened-under : (opens names outer : List Name) → opened opens (names ++ outer) ≡ opened opens names ++ outer
opened-under [] names outer = refl
opened-under (name ∷ opens) names outer = opened-under opens (name ∷ names) outer

runs-under : (names end outer : List Name) (marks : List Mark) → Runs names marks end →
    Runs (names ++ outer) marks (end ++ outer)
runs-under names end outer [] h = ap (λ (l : List Name). l ++ outer) h
runs-under names end outer (mark ∷ marks) h = (
  h.0 ++ outer,
  opened-under (opens_in mark.front) names outer ∙ ap (λ (l : List Name). l ++ outer) h.1
      ∙ append_assoc (closes_in mark.back) h.0 outer,
  runs-under h.0 end outer marks h.2,
)

begin-opens : (name : Name) (front : Front) (names : List Name) →
    opened (opens_in (front_within name front name)) names ≡ opened (opens_in front) (name ∷ names)
begin-opens name passes names = refl
begin-opens name (begins opens first) names = refl

runs-begin : (name : Name) (names end : List Name) (mark : Mark) (marks : List Mark) →
    Runs (name ∷ names) (mark ∷ marks) end → Runs names (begin name (mark ∷ marks)) end
runs-begin name names end mark marks h = (h.0, begin-opens name mark.front names ∙ h.1, h.2)

finish-closes : (name : Name) (back : Back) (names : List Name) →
    closes_in back ++ name ∷ names ≡ closes_in (back_within name back) ++ names
finish-closes name stays names = refl
finish-closes name (ends closes) names = sym (append_assoc closes (name ∷ []) names)

runs-finish : (name : Name) (names end : List Name) (mark : Mark) (marks : List Mark) →
    Runs names (mark ∷ marks) (name ∷ end) → Runs names (finish name (mark ∷ marks)) end
runs-finish name names end mark [] h = (
  end,
  h.1 ∙ ap (λ (l : List Name). closes_in mark.back ++ l) h.2 ∙ finish-closes name mark.back end,
  refl,
)
runs-finish name names end mark (next ∷ marks) h = (h.0, h.1, runs-finish name h.0 end next marks h.2)

runs-part : (name : Name) (names : List Name) (marks : List Mark) → Runs [] marks [] →
    Runs names (finish name (begin name marks)) names
runs-part name names [] h = refl
runs-part name names (mark ∷ marks) h =
    runs-finish name names names (record { front = front_within name mark.front name; back = mark.back }) marks
    (runs-begin name names (name ∷ names) mark marks (runs-under [] [] (name ∷ names) (mark ∷ marks) h))

pub forest-runs : (forest : Forest) → Runs [] (marks forest) []
forest-runs nothing = refl
forest-runs (piece name more following) =
    ([], refl, runs-append [] [] [] (bare more) (marks following) (runs-bare [] more) (forest-runs following))
forest-runs (part name inside following) =
    runs-append [] [] [] (finish name (begin name (marks inside))) (marks following)
    (runs-part name [] (marks inside) (forest-runs inside)) (forest-runs following)

pub forest-marks : (text : List ℕ) (forest : Forest) → IsForestOf text forest → AreMarks text (marks forest)
forest-marks text forest is = record {
  long = is.long;
  named = forest-named forest is.names;
  runs = forest-runs forest;
}

-- Any forest over what is read of a part gives events that every inline layer may give for the part.
pub woven-framed : (bytes : List ℕ) (held : Part) (forest : Forest) → IsPart bytes held →
    IsForestOf (read_text bytes held) forest → Framed bytes held (woven_events bytes held forest)
woven-framed bytes held forest is over =
    marks-framed bytes held (marks forest) is (forest-marks (read_text bytes held) forest over)

-- So a layer that reads a forest from the text of each part keeps the promise of every layer.
pub woven-keeps : (bytes : List ℕ) (read : PartKind → List ℕ → Forest) →
    ((kind : PartKind) (text : List ℕ) → IsForestOf text (read kind text)) →
    KeepsFrame bytes (λ held events. events ≡ woven_events bytes held (read held.kind (read_text bytes held)))
woven-keeps bytes read are held events is answer =
    subst (Framed bytes held) (sym answer)
    (woven-framed bytes held (read held.kind (read_text bytes held)) is (are held.kind (read_text bytes held)))

-- What the table of the document has read of a text: its mark and its frontmatter.
use Rattle.std.proofs.Common.{◌≡◌, ◌+◌, ◌^◌, ◌<◌, ◌≤◌, ℕ, suc, Bool, true, false, cond, nat_eq, nat_lt, ◌&&◌, ◌||◌}
use Rattle.std.proofs.Common.{List, [], ◌∷◌, ◌++◌, length, take, drop, Option, Some, None, refl, sym, ◌∙◌, ap, subst}
use Rattle.std.proofs.Common.{append-nil, arith}
use Rattle.std.specs.Prelude.{◌==◌, slice_index}
use Rattle.std.specs.List.{list_all}
use Rattle.std.specs.Cmp.Lexicographic.{pointwise}
use Rattle.std.proofs.lemmas.Bool.{and_parts, eqb-true}
use Rattle.std.proofs.lemmas.Bool.Decides.{nat_tests}
use Rattle.std.proofs.lemmas.List.{length-drop}
use Rattle.md_engine.specs.declared.configuration.ParseOptions.{ParseOptions}
use Rattle.md_engine.specs.declared.event.Event.{Event}
use Rattle.md_engine.specs.declared.event.Name.TheVariants.{ByteOrderMark}
use Rattle.md_engine.specs.declared.event.Point.{Point}
use Rattle.md_engine.specs.declared.state.Name.TheVariants as s
use Rattle.md_engine.specs.declared.state.document.State.TheVariants as document
use Rattle.md_engine.specs.declared.state.State.{State}
use Rattle.md_engine.specs.declared.state.State.TheVariants.{Error, Ok, Nok, Next, Retry}
use Rattle.md_engine.specs.declared.tokenizer.Scratch.{Scratch}
use Rattle.md_engine.specs.Found.{Found}
use Rattle.md_engine.specs.Meaning.{Accepts, Cell, Follows, Here, Outcome, Refuses, whole_outcome, proceeds, here}
use Rattle.md_engine.specs.Place.{first_point, seen_at}
use Rattle.md_engine.specs.Run.{Flushes, IsEnd, Resolution, Runs, plain}
use Rattle.md_engine.specs.Scheme.{valid}
use Rattle.md_engine.specs.Situation.{MeansAt}
use Rattle.md_engine.specs.TextFeed.{text_feed}
use Rattle.md_engine.specs.World.{Setting, World, after, fresh, reads_to}
use Rattle.md_engine.proofs.Keeps.{runs-setting}
use Rattle.md_engine.proofs.Situation.{runs-mean}
use Rattle.md_engine.proofs.TextFeed.{flush-means, text-follows}
use Rattle.md_containers.specs.Frontmatter.{cleared}
use Rattle.md_meaning.specs.Lines.{full_lines_of}
use Rattle.md_leaves.specs.Bom.{mark}
use Rattle.md_leaves.specs.BomRule.{are_next, bom_at}
use Rattle.md_events.specs.Ahead.{point_after}
use Rattle.md_events.specs.Events.Nested.{pair}
use Rattle.md_meaning.specs.Preamble.{has_mark}
use Rattle.md_events.specs.Spaces.{IsRest}
use Rattle.md_registry.specs.Document.{DocumentStep, ReadsFront, document_table_scheme}
use Rattle.proof_leaf_laws.specs.Front.{FrontRead, body_point, events_of, front_events, front_read, mark_end, point_or}
use Rattle.proof_leaf_laws.specs.Front.{text_front}
use Rattle.proof_leaf_laws.specs.DocumentRule.{after_front, document_at, document_behaves}
use Rattle.proof_rows.specs.TextRows.{text_cells, text_setting}
use Rattle.proof_frame.specs.Rule.{tried}
use Rattle.proof_leaf_laws.proofs.FrontAgrees.{Begins, IsWhole, becomes, front-agrees}
use Rattle.md_registry.proofs.DocumentMeans.{document_table_means, document_keeps_valid}
use Rattle.md_events.proofs.FeedLines.{feed-next, feed-none, line-feed, past-next}
use Rattle.md_events.proofs.PlacesLemmas.{at-next}
use Rattle.md_meaning.proofs.PreambleLemmas.{mark-bytes, mark-length}

-- The mark among the cells.

-- after a byte that is neither an ending nor a tab
abbrev following : Point → Point
following p = record p { column = p.column + 1; index = p.index + 1; vs = 0 }

byte-following : (x : Setting) (p : Point) (b : ℕ) → slice_index x.bytes p.index ≡ b → 13 < b → after x p ≡ following p
byte-following x p b is lt =
    let feed : (b == 10) ≡ false = grind (arith, nat_tests) in
    let return : (b == 13) ≡ false = grind (arith, nat_tests) in
    let tab : (b == 9) ≡ false = grind (arith, nat_tests) in
    rw (is, feed, return, tab) refl

byte-seen : (bytes : List ℕ) (p : Point) (b : ℕ) → slice_index bytes p.index ≡ b → 13 < b → seen_at bytes p ≡ b
byte-seen bytes p b is lt =
    let feed : (b == 10) ≡ false = grind (arith, nat_tests) in
    let return : (b == 13) ≡ false = grind (arith, nat_tests) in
    let tab : (b == 9) ≡ false = grind (arith, nat_tests) in
    rw (is, feed, return, tab) refl

-- and another byte is not seen as such a one
other-seen : (bytes : List ℕ) (p : Point) (b c : ℕ) → slice_index bytes p.index ≡ c → 13 < b → p.vs ≡ 0 →
    (c == b) ≡ false → (seen_at bytes p == b) ≡ false
other-seen bytes p b c is lt vs e = rw (is, vs) (go (c == 10) (c == 13) (c == 9))
  where
    feed : (10 == b) ≡ false
    feed = grind (arith, nat_tests)

    go : (x y z : Bool) → (cond (x || y) 10 (cond (z && false) 32 c) == b) ≡ false
    go true y z = feed
    go false true z = feed
    go false false true = e
    go false false false = e

-- the first cells are some bytes just where these come first in the text
are-ahead : (front : List ℕ) (x : Setting) (p : Point) → x.limit ≡ length x.bytes → x.limit < 2 ^ 61 → p.vs ≡ 0 →
    list_all (nat_lt 13) front ≡ true →
    are_next front (text_feed x p) ≡ pointwise nat_eq front (take (length front) (drop p.index x.bytes))
are-ahead [] x p all small vs high = refl
are-ahead (b ∷ front) x p all small vs high =
    let parts : (nat_lt 13 b ≡ true) ×
    (list_all (nat_lt 13) front ≡ true) = and_parts (nat_lt 13 b) (list_all (nat_lt 13) front) high in
    go (drop p.index x.bytes) refl (let lt = parts.0 in grind (arith, nat_tests))
    (are-ahead front x (following p) all small refl parts.1)
  where
    Same : Type 0
    Same =
        are_next front (text_feed x (following p)) ≡
        pointwise nat_eq front (take (length front) (drop (p.index + 1) x.bytes))

    go : (rest : List ℕ) → drop p.index x.bytes ≡ rest → 13 < b → Same →
        are_next (b ∷ front) (text_feed x p) ≡ pointwise nat_eq (b ∷ front) (take (suc (length front)) rest)
    go [] e above same =
        let none : length (drop p.index x.bytes) ≡ 0 = ap (λ (l : List ℕ). length l) e in
        let past : x.limit ≤ p.index = omega (arith, length-drop p.index x.bytes, none) in
        ap (are_next (b ∷ front)) (feed-none x p small past)
    go (c ∷ rest) e above same = by (c == b) refl
      where
        inside : p.index < x.limit
        inside =
            let some : length (drop p.index x.bytes) ≡ suc (length rest) = ap (λ (l : List ℕ). length l) e in
            omega (arith, length-drop p.index x.bytes, some)

        is : slice_index x.bytes p.index ≡ c
        is = at-next p.index x.bytes c rest e

        by : (t : Bool) → (c == b) ≡ t →
            are_next (b ∷ front) (text_feed x p) ≡ pointwise nat_eq (b ∷ front) (take (suc (length front)) (c ∷ rest))
        by true k =
            let one : c ≡ b = eqb-true c b k in
            let here' : slice_index x.bytes p.index ≡ b = is ∙ one in
            ap (are_next (b ∷ front)) (feed-next x p small inside)
            ∙ ap (λ (d : ℕ). (d == b) && are_next front (text_feed x (after x p))) (byte-seen x.bytes p b here' above)
            ∙ ap (λ (q : Point). (b == b) && are_next front (text_feed x q)) (byte-following x p b here' above)
            ∙ ap (λ (t : Bool). (b == b) && t) same
            ∙ ap (λ (l : List ℕ). (b == b) && pointwise nat_eq front (take (length front) l))
            (past-next p.index x.bytes c rest e)
            ∙ ap (λ (d : ℕ). nat_eq b d && pointwise nat_eq front (take (length front) rest)) (sym one)
        by false k =
            let other : nat_eq b c ≡ false = grind (arith, nat_tests) in
            ap (are_next (b ∷ front)) (feed-next x p small inside)
            ∙ ap (λ (t : Bool). t && are_next front (text_feed x (after x p))) (other-seen x.bytes p b c is above vs k)
            ∙ sym (ap (λ (t : Bool). t && pointwise nat_eq front (take (length front) rest)) other)

text-marked : (bytes : List ℕ) (options : ParseOptions) → length bytes < 2 ^ 61 →
    are_next mark (text_cells bytes options first_point) ≡ has_mark bytes
text-marked bytes options small =
    are-ahead mark (text_setting bytes options first_point) first_point refl small refl refl

-- after a mark each of its bytes is a column
mark-cells : (bytes : List ℕ) (options : ParseOptions) → length bytes < 2 ^ 61 → has_mark bytes ≡ true →
    point_after (take 3 (text_cells bytes options first_point)) first_point ≡ mark_end
mark-cells bytes options small h =
    let x = text_setting bytes options first_point in
    let most = mark-length bytes h in
    ap (λ (cells : List Cell). point_after (take 3 cells) first_point)
    (line-feed x (239 ∷ 187 ∷ 191 ∷ []) (drop 3 bytes) first_point
    (record {
      small = small;
      text = mark-bytes bytes h;
      no_ending = (refl, (refl, (refl, tt)));
      within = omega (arith, most);
      whole = refl;
      column = omega arith;
    }))

-- What the document becomes.

bom-there : (cells : List Cell) (h : Here) (p : Point) → are_next mark cells ≡ true →
    point_after (take 3 cells) h.point ≡ p →
    bom_at cells h ≡ Accepts (record h { events = h.events ++ pair ByteOrderMark h.point p; point = p }) (drop 3 cells)
unfolding bom_at
bom-there cells h p e k = rw (e, k) refl

bom-none : (cells : List Cell) (h : Here) → are_next mark cells ≡ false → bom_at cells h ≡ Refuses h.scratch h.flags
unfolding bom_at
bom-none cells h e = rw e refl

abbrev begun : List ℕ → ParseOptions → Here
begun bytes options = here (fresh bytes options first_point)

-- what is left after a mark
following-mark : (bytes : List ℕ) (options : ParseOptions) → length bytes < 2 ^ 61 → has_mark bytes ≡ true →
    drop 3 (text_cells bytes options first_point) ≡ text_feed (text_setting bytes options first_point) mark_end
following-mark bytes options small h =
    let x = text_setting bytes options first_point in
    let most = mark-length bytes h in
    ap (λ (cells : List Cell). drop 3 cells)
    (line-feed x (239 ∷ 187 ∷ 191 ∷ []) (drop 3 bytes) first_point
    (record {
      small = small;
      text = mark-bytes bytes h;
      no_ending = (refl, (refl, (refl, tt)));
      within = omega (arith, most);
      whole = refl;
      column = omega arith;
    }))

-- after the frontmatter, or where none is
ends-front : (x : Setting) (k : Here) (cells : List Cell) (o : Option FrontRead) →
    (s : Scratch) × (rest : List Cell) ×
    (tried (becomes x k o) (λ l h. Accepts h l) (λ t g. Accepts (record k { scratch = t; flags = g }) cells) ≡
    Accepts (record k { events = k.events ++ events_of o; point = point_or k.point o; scratch = s }) rest)
ends-front x k cells None = (
  k.scratch,
  cells,
  ap (λ (es : List Event). Accepts (record k { events = es }) cells) (sym (append-nil k.events)),
)
ends-front x k cells (Some f) = (cleared k.scratch, text_feed x f.point, refl)

front-ends : (bytes : List ℕ) (options : ParseOptions) (text : List ℕ) (k : Here) → length bytes < 2 ^ 61 →
    Begins (text_setting bytes options first_point) text k.point → IsRest k.scratch →
    (s : Scratch) × (rest : List Cell) ×
    (after_front options (text_feed (text_setting bytes options first_point) k.point) k ≡
    Accepts
    (record k {
      events = k.events ++ events_of (front_read options (full_lines_of text) k.point);
      point = point_or k.point (front_read options (full_lines_of text) k.point);
      scratch = s;
    }) rest)
front-ends bytes options text k small at rest =
    let x = text_setting bytes options first_point in
    let cells = text_feed x k.point in
    let whole : IsWhole x = record { small = small; all = refl; skips = refl } in
    let ends = ends-front x k cells (front_read options (full_lines_of text) k.point) in (
      ends.0,
      ends.1,
      ap
          (λ (o : Outcome).
          tried o (λ l h. Accepts h l) (λ t g. Accepts (record k { scratch = t; flags = g }) cells))
          (front-agrees x text k whole at rest)
          ∙ ends.2,
    )

document-accepts : (bytes : List ℕ) (options : ParseOptions) → length bytes < 2 ^ 61 →
    (s : Scratch) × (rest : List Cell) ×
    (document_at options (text_cells bytes options first_point) (begun bytes options) ≡
    Accepts
    (record (begun bytes options) {
      events = front_events options bytes;
      point = body_point options bytes;
      scratch = s;
    }) rest)
unfolding text_front
document-accepts bytes options small = go (has_mark bytes) refl
  where
    cells : List Cell
    cells = text_cells bytes options first_point

    onward : Outcome → Outcome
    onward o =
        tried o (λ rest k. after_front options rest k)
        (λ s g. after_front options cells (record (begun bytes options) { scratch = s; flags = g }))

    marked : Here
    marked = record (begun bytes options) { events = pair ByteOrderMark first_point mark_end; point = mark_end }

    read : Bool → Option FrontRead
    read t = front_read options (full_lines_of (cond t (drop 3 bytes) bytes)) (cond t mark_end first_point)

    go : (x : Bool) → has_mark bytes ≡ x →
        (s : Scratch) × (rest : List Cell) ×
        (document_at options cells (begun bytes options) ≡
        Accepts
        (record (begun bytes options) {
          events = cond x (pair ByteOrderMark first_point mark_end) [] ++ events_of (read x);
          point = point_or (cond x mark_end first_point) (read x);
          scratch = s;
        }) rest)
    go true e =
        let most = mark-length bytes e in
        let ends = front-ends bytes options (drop 3 bytes) marked small
        (record { valid = refl; index = most; whole = refl; column = omega arith }) refl in (
          ends.0,
          ends.1,
          ap onward
              (bom-there cells (begun bytes options) mark_end (text-marked bytes options small ∙ e)
              (mark-cells bytes options small e))
              ∙ ap (λ (l : List Cell). after_front options l marked) (following-mark bytes options small e)
              ∙ ends.2,
        )
    go false e =
        let ends = front-ends bytes options bytes (begun bytes options) small
        (record { valid = refl; index = omega arith; whole = refl; column = omega arith }) refl in (
          ends.0,
          ends.1,
          ap onward (bom-none cells (begun bytes options) (text-marked bytes options small ∙ e)) ∙ ends.2,
        )

-- What was read.

-- a whole run that accepts ends in what is accepted
accepted : (options : ParseOptions) (e : State) (h k : Here) (rest cells : List Cell) → IsEnd e →
    Accepts h rest ≡ proceeds (document_behaves options) e cells k → h ≡ k
accepted options Ok h k rest cells t is = cc
accepted options Nok h k rest cells t is = cc
accepted options Error h k rest cells t is = absurd t
accepted options (Next name) h k rest cells t is = absurd t
accepted options (Retry name) h k rest cells t is = absurd t

document-reads : (R : Resolution) (bytes : List ℕ) (options : ParseOptions) (end : State) (at : World) (found : Found)
    (new : World) →
    length bytes < 2 ^ 61 →
    Runs DocumentStep false (Next (s.Document document.Start))
    (reads_to (fresh bytes options first_point) (length bytes)) end at →
    Flushes DocumentStep R end at false found new → ReadsFront bytes options new
document-reads R bytes options end at found new small run f =
    record {
      events = ap (λ (w : World). w.events) same ∙ sym (ap (λ (h : Here). h.events) ended);
      point = ap (λ (w : World). w.point) same ∙ sym (ap (λ (h : Here). h.point) ended);
      bytes_are =
          ap (λ (w : World). w.setting.bytes) same
          ∙ ap (λ (x : Setting). x.bytes) (runs-setting DocumentStep true end at f.end f.at f.runs ∙ kept);
    }
  where
    x : Setting
    x = text_setting bytes options first_point

    w0 : World
    w0 = reads_to (fresh bytes options first_point) (length bytes)

    is_valid : valid document_table_scheme w0 (Next (s.Document document.Start))
    is_valid = (refl, record { ok = λ s q t is up way. tt; nok = λ s q t is up. tt })

    pushed : (whole_outcome (document_behaves options) (text_feed x) (Next (s.Document document.Start)) w0 ≡
        whole_outcome (document_behaves options) (text_feed x) end at) ×
        valid document_table_scheme at (plain end)
    pushed =
        runs-mean DocumentStep document_table_scheme (document_behaves options) false (text_feed x)
        (Next (s.Document document.Start)) w0 (document_table_means w0.setting false) document_keeps_valid
        (text-follows x (length bytes) false small (omega arith) (λ e. cc)) is_valid end at run

    kept : at.setting ≡ x
    kept = runs-setting DocumentStep false (Next (s.Document document.Start)) w0 end at run

    flushed : whole_outcome (document_behaves options) (text_feed x) end at ≡
        proceeds (document_behaves options) f.end (text_feed x f.at.point) (here f.at)
    flushed =
        let P : Setting → Type 0 = λ y. Follows (text_feed x) y true in
        let Q : Setting → Type 0 =
        λ y. MeansAt DocumentStep document_table_scheme at.setting (document_behaves y.options) true in
        flush-means DocumentStep R document_table_scheme (document_behaves options) (text_feed x) end at false found new
        (subst Q kept (document_table_means at.setting true)) document_keeps_valid
        (subst P (sym kept) (text-follows x x.limit true small (omega arith) (λ e. refl))) pushed.1 f

    ended : record (begun bytes options) {
      events = front_events options bytes;
      point = body_point options bytes;
      scratch = (document-accepts bytes options small).0;
    } ≡ here f.at
    ended =
        let front = document-accepts bytes options small in
        accepted options f.end _ (here f.at) front.1 (text_feed x f.at.point) f.ends (sym front.2 ∙ pushed.0 ∙ flushed)

    same : new ≡ f.at
    same = f.resolved.0

-- the same for a tokenizer that is known to be fresh
pub document-reads-from : (R : Resolution) (bytes : List ℕ) (options : ParseOptions) (start : World) (to : ℕ)
    (end : State) (at : World) (found : Found) (new : World) →
    start ≡ fresh bytes options first_point → to ≡ length bytes → length bytes < 2 ^ 61 →
    Runs DocumentStep false (Next (s.Document document.Start)) (reads_to start to) end at →
    Flushes DocumentStep R end at false found new → ReadsFront bytes options new
document-reads-from R bytes options start to end at found new same all small run f =
    let P : World →
    Type 0 = λ w. Runs DocumentStep false (Next (s.Document document.Start)) (reads_to w (length bytes)) end at in
    let Q : ℕ → Type 0 = λ n. Runs DocumentStep false (Next (s.Document document.Start)) (reads_to start n) end at in
    document-reads R bytes options end at found new small (subst P same (subst Q all run)) f

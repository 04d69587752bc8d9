-- Each state of a row takes one step of its rule.
use Rattle.std.proofs.Common.{◌≡◌, ℕ, Bool, true, false, nat_eq, List, [], ◌∷◌, ◌++◌, Option, Some, None, refl, sym}
use Rattle.std.proofs.Common.{◌∙◌, ◌||◌, ap, arith, append-nil, append_assoc, subst}
use Rattle.std.proofs.lemmas.Bool.{eqb-true}
use Rattle.md_engine.specs.declared.event.Event.{Event}
use Rattle.md_engine.specs.declared.event.Kind.TheVariants.{Enter}
use Rattle.md_engine.specs.declared.event.Name.TheVariants.{SpaceOrTab}
use Rattle.md_engine.specs.declared.event.Name.TheVariants as parts
use Rattle.md_engine.specs.declared.state.State.{State}
use Rattle.md_engine.specs.declared.state.State.TheVariants.{Next}
use Rattle.md_engine.specs.declared.tokenizer.Frame.{Frame}
use Rattle.md_engine.specs.Meaning.{Accepts, Behaviour, Cell, Feed, Here, Steps, proceeds, here}
use Rattle.md_engine.specs.World.{World, after}
use Rattle.md_engine.specs.Sees.{Sees, ahead, cell_here}
use Rattle.md_engine.proofs.StepOf.{begins, moves, passes, steps-as}
use Rattle.md_meaning.specs.Rest.{is_white}
use Rattle.md_leaves.proofs.LeafSteps.{following-joined, sees-one, white-run, white_frame}
use Rattle.md_leaves.proofs.BreakLemmas.{white-apart}
use Rattle.md_events.specs.Ahead.{white_rest}
use Rattle.md_events.specs.Events.Nested.{enter, exit}
use Rattle.md_events.specs.Spaces.{IsRest, any_size, calmed, sees_white}
use Rattle.md_events.specs.Transition.{Transition}
use Rattle.md_events.proofs.WhiteMeaning.{begins-seen, white-tried}
use Rattle.md_tables.specs.Row.{Divides, Ends, Escapes, Other, Piece, White as Space, at_break_code, after_part, begun}
use Rattle.md_tables.specs.Row.{data_code, escape_code, is_escaped, is_text, name_at, piece, row_transition, text_link}
use Rattle.md_tables.specs.RowRule.{Apart, Escaped, HasRow, Pipe, RowMeans, Run, Text, White, at_break, closes}
use Rattle.md_tables.specs.RowRule.{is_continued, begun as run_begun, in_row, in_text, opens, row_closes, row_opens}
use Rattle.md_tables.specs.declared.row.Place.{Place}
use Rattle.md_tables.specs.declared.row.Place.TheVariants as place
use Rattle.md_tables.specs.declared.row.Row.{Row}
use Rattle.md_tables.specs.declared.row.Row.TheVariants.{Head, Body}
use Rattle.md_tables.proofs.RowTermination.{is_space, piece-white}
use Rattle.md_tables.proofs.RowLemmas.{apart-none, apart-text, apart-white, escaped-other, run-begins, run-ends}
use Rattle.md_tables.proofs.RowLemmas.{run-ends_line, run-ends_none, run-more, takes-white}

-- a run that does not continue with what is here ends
run-stops : (feed : Feed) (w : World) (r : Row) (h : Here) (run : Run) (o : Option ℕ) →
    ((b : ℕ) → o ≡ Some b → nat_eq b 10 ≡ false → is_continued run b ≡ false) →
    in_row r run (ahead feed w o) h ≡
    in_row r Apart (ahead feed w o) (record h { events = h.events ++ closes run h.point })
run-stops feed w r h run None stops = run-ends_none r run h
run-stops feed w r h run (Some b) stops = go (nat_eq b 10) refl
  where
    go : (x : Bool) → nat_eq b 10 ≡ x →
        in_row r run (ahead feed w (Some b)) h ≡
        in_row r Apart (ahead feed w (Some b)) (record h { events = h.events ++ closes run h.point })
    go true e = run-ends_line r run (cell_here feed w b) (feed (after w.setting w.point)) h e
    go false e = run-ends r run (cell_here feed w b) (feed (after w.setting w.point)) h (stops b refl e) e

-- whitespace that is here is the next run
white-here : (feed : Feed) (w : World) (r : Row) (h : Here) → Sees feed w → sees_white w.current ≡ true →
    in_row r Apart (feed w.point) h ≡
    in_row r White (feed w.point) (record h { events = h.events ++ enter SpaceOrTab h.point ∷ [] })
white-here feed w r h s e =
    let saw = sees-one feed w sees_white refl s e in
    ap (λ (x : List Cell). in_row r Apart x h) saw.1
    ∙ apart-white r (cell_here feed w saw.0) (feed (after w.setting w.point)) h saw.2
    ∙ ap (λ (x : List Cell). in_row r White x (record h { events = h.events ++ enter SpaceOrTab h.point ∷ [] }))
    (sym saw.1)

-- what is left after a part, in a step that adds these events
following_means : (B : Behaviour) (feed : Feed) (r : Row) (from : State) (w : World) (added : List Event) (x : Bool) →
    HasRow B r → Sees feed w → IsRest w.scratch → sees_white w.current ≡ x →
    proceeds B from (feed w.point) (here w) ≡
    in_row r Apart (feed w.point) (record (here w) { events = w.events ++ added }) →
    (let left : Transition = after_part r (record w { events = w.events ++ added }) x in
    Steps B feed from w left.to left.world)
following_means B feed r from w added true has s rest e same =
    let h : Here = record (here w) { events = w.events ++ added } in
    let frame : Frame = white_frame (Next (name_at r place.Break)) w h.events in
    begins B feed from _ w (after_part r (record w { events = h.events }) true).world added frame refl refl
    (same ∙ white-here feed w r h s e
    ∙ white-run _ (in_row r White) (at_break r) any_size (feed w.point)
    (record h { events = h.events ++ enter SpaceOrTab h.point ∷ [] }) (takes-white r) tt (omega (arith, s.short))
    ∙ ap (at_break r (white_rest any_size (feed w.point)))
    (following-joined any_size (feed w.point) h (ap calmed rest ∙ sym rest))
    ∙ sym (has.each place.Break _ _)
    ∙ white-tried B feed frame h.events (feed w.point) h 1 any_size has.white (begins-seen feed w s ∙ e) (omega arith)
    (omega arith) refl)
following_means B feed r from w added false has s rest e same =
    let h : Here = record (here w) { events = w.events ++ added } in
    moves B feed from _ w (after_part r (record w { events = h.events }) false).world added refl refl
    (same ∙ sym (apart-none r (feed w.point) h (begins-seen feed w s ∙ e)) ∙ sym (has.each place.Break _ _))

-- Before a row.

start_means : (B : Behaviour) (feed : Feed) (r : Row) (w : World) (x : Bool) → HasRow B r → Sees feed w →
    IsRest w.scratch → sees_white w.current ≡ x →
    Steps B feed (Next (name_at r place.Start)) w (after_part r (begun r w) x).to (after_part r (begun r w) x).world
start_means B feed Head w x has s rest e =
    following_means B feed Head (Next (name_at Head place.Start)) w (row_opens Head w.point) x has s rest e
    (has.each place.Start _ _)
start_means B feed Body w x has s rest e =
    let two : begun Body w ≡ record w { events = w.events ++ row_opens Body w.point } =
    ap (λ (es : List Event). record w { events = es }) (append_assoc w.events _ _) in
    rw two
    (following_means B feed Body (Next (name_at Body place.Start)) w (row_opens Body w.point) x has s rest e
    (has.each place.Start _ _))

-- Between two parts.

-- a byte of this piece is here
pub record SeesPiece (feed : Feed) (w : World) (x : Piece) : Type 0 where
  pub byte : ℕ
  pub next : feed w.point ≡ cell_here feed w byte ∷ feed (after w.setting w.point)
  pub is : piece (Some byte) ≡ x

sees-piece : (feed : Feed) (w : World) (x : Piece) → Sees feed w → piece w.current ≡ x → (x ≡ Ends → ⊥) →
    SeesPiece feed w x
sees-piece feed w x s e some = go w.current e s.next
  where
    go : (o : Option ℕ) → piece o ≡ x → feed w.point ≡ ahead feed w o → SeesPiece feed w x
    go None k at = absurd (some (sym k))
    go (Some b) k at = record { byte = b; next = at; is = k }

-- which byte a piece is of
abbrev is_end : Piece → Bool
is_end Ends = true
is_end _ = false

abbrev is_pipe : Piece → Bool
is_pipe Divides = true
is_pipe _ = false

abbrev is_slash : Piece → Bool
is_slash Escapes = true
is_slash _ = false

record Recorded (b : ℕ) (x : Piece) : Type 0 where
  pub ending : nat_eq b 10 ≡ is_end x
  pub white : is_white b ≡ is_space x
  pub pipe : nat_eq b 124 ≡ is_pipe x
  pub slash : nat_eq b 92 ≡ is_slash x

recorded : (b : ℕ) → Recorded b (piece (Some b))
recorded b = go (nat_eq b 10) (is_white b) (nat_eq b 124) (nat_eq b 92) refl refl refl refl
  where
    go : (x y z v : Bool) → nat_eq b 10 ≡ x → is_white b ≡ y → nat_eq b 124 ≡ z → nat_eq b 92 ≡ v →
        Recorded b (piece (Some b))
    go true y z v h k l m =
        rw (eqb-true b 10 h) (record { ending = refl; white = refl; pipe = refl; slash = refl })
    go false true z v h k l m = record {
      ending = rw (h, k) refl;
      white = rw (h, k) refl;
      pipe = rw (h, k, white-apart b 124 k refl) refl;
      slash = rw (h, k, white-apart b 92 k refl) refl;
    }
    go false false true v h k l m =
        rw (eqb-true b 124 l) (record { ending = refl; white = refl; pipe = refl; slash = refl })
    go false false false true h k l m =
        rw (eqb-true b 92 m) (record { ending = refl; white = refl; pipe = refl; slash = refl })
    go false false false false h k l m =
        record {
          ending = rw (h, k, l, m) refl;
          white = rw (h, k, l, m) refl;
          pipe = rw (h, k, l, m) refl;
          slash = rw (h, k, l, m) refl;
        }

-- a word has none of the others
no-space : (x : Piece) → is_text x ≡ true → is_space x ≡ false
no-space Ends e = cc
no-space Space e = cc
no-space Divides e = cc
no-space Escapes e = refl
no-space Other e = refl

no-pipe : (x : Piece) → is_text x ≡ true → is_pipe x ≡ false
no-pipe Ends e = cc
no-pipe Space e = cc
no-pipe Divides e = cc
no-pipe Escapes e = refl
no-pipe Other e = refl

no-end : (x : Piece) → is_text x ≡ true → is_end x ≡ false
no-end Ends e = cc
no-end Space e = cc
no-end Divides e = cc
no-end Escapes e = refl
no-end Other e = refl

recorded-as : (b : ℕ) (x : Piece) → piece (Some b) ≡ x → Recorded b x
recorded-as b x e = rw (← e) (recorded b)

-- at the end of the line the row ends
line-ends : (feed : Feed) (w : World) (r : Row) (h : Here) (o : Option ℕ) → piece o ≡ Ends →
    at_break r (ahead feed w o) h ≡
    Accepts (record h { events = h.events ++ row_closes r h.point }) (ahead feed w o)
unfolding at_break in_row
line-ends feed w r h None e = rw append-nil refl
line-ends feed w r h (Some b) e = let t = recorded-as b Ends e in rw (t.white, t.ending, append-nil) refl

ends_means : (B : Behaviour) (feed : Feed) (r : Row) (w : World) → HasRow B r → Sees feed w → piece w.current ≡ Ends →
    Steps B feed (Next (name_at r place.Break)) w (at_break_code r w Ends).to (at_break_code r w Ends).world
ends_means B feed Head w has s e =
    moves B feed _ _ w (at_break_code Head w Ends).world (row_closes Head w.point) refl refl
    (has.each place.Break _ _ ∙ rw s.next (line-ends feed w Head (here w) w.current e))
ends_means B feed Body w has s e =
    let two : (at_break_code Body w Ends).world ≡ record w { events = w.events ++ row_closes Body w.point } =
    ap (λ (es : List Event). record w { events = es }) (append_assoc w.events _ _) in
    rw two
    (moves B feed _ _ w (record w { events = w.events ++ row_closes Body w.point }) (row_closes Body w.point) refl refl
    (has.each place.Break _ _ ∙ rw s.next (line-ends feed w Body (here w) w.current e)))

-- whitespace is not there
white_means : (B : Behaviour) (feed : Feed) (r : Row) (w : World) → HasRow B r → Sees feed w →
    piece w.current ≡ Space →
    Steps B feed (Next (name_at r place.Break)) w (at_break_code r w Space).to (at_break_code r w Space).world
unfolding at_break
white_means B feed r w has s e =
    let white = begins-seen feed w s ∙ piece-white w.current ∙ ap is_space e in
    passes B feed _ _ w w refl refl (has.each place.Break _ _ ∙ rw white refl)

-- a pipe is a run of its own
pipe-ends : (r : Row) (cells : List Cell) (h : Here) →
    in_row r Pipe cells h ≡
    in_row r Apart cells (record h { events = h.events ++ exit parts.GfmTableCellDivider h.point ∷ [] })
pipe-ends r [] h = run-ends_none r Pipe h
pipe-ends r (c ∷ cs) h = go (nat_eq c.byte 10) refl
  where
    go : (x : Bool) → nat_eq c.byte 10 ≡ x →
        in_row r Pipe (c ∷ cs) h ≡
        in_row r Apart (c ∷ cs) (record h { events = h.events ++ exit parts.GfmTableCellDivider h.point ∷ [] })
    go true e = run-ends_line r Pipe c cs h e
    go false e = run-ends r Pipe c cs h refl e

divides_means : (B : Behaviour) (feed : Feed) (r : Row) (w : World) → HasRow B r → Sees feed w →
    piece w.current ≡ Divides →
    Steps B feed (Next (name_at r place.Break)) w (at_break_code r w Divides).to (at_break_code r w Divides).world
divides_means B feed r w has s e =
    let saw = sees-piece feed w Divides s e (λ k. cc) in
    let t = recorded-as saw.byte Divides saw.is in
    let c : Cell = cell_here feed w saw.byte in
    let cs : List Cell = feed (after w.setting w.point) in
    let p = after w.setting w.point in
    let new : World = (at_break_code r w Divides).world in
    let h : Here = record (here w) { events = w.events ++ enter parts.GfmTableCellDivider w.point ∷ []; point = p } in
    let is_pipe_run : run_begun saw.byte ≡ Pipe = rw (t.white, t.pipe) refl in
    moves B feed _ _ w new
    (enter parts.GfmTableCellDivider w.point ∷ exit parts.GfmTableCellDivider p ∷ []) refl (append_assoc w.events _ _)
    (has.each place.Break _ _ ∙ ap (λ (x : List Cell). at_break r x (here w)) saw.next
    ∙ apart-none r (c ∷ cs) (here w) t.white ∙ run-begins r c cs (here w) t.ending
    ∙ ap (λ (y : Run). in_row r y cs (record (here w) { events = w.events ++ opens y w.point; point = p })) is_pipe_run
    ∙ pipe-ends r cs h ∙ sym (has.each place.CellBefore _ _))

-- a word begins with what is here
word-here : (feed : Feed) (w : World) (r : Row) (h : Here) (x : Piece) (b : ℕ) → Recorded b x → is_text x ≡ true →
    feed w.point ≡ cell_here feed w b ∷ feed (after w.setting w.point) →
    at_break r (feed w.point) h ≡
    in_row r Text (feed w.point)
    (record h {
      events = h.events ++ record { kind = Enter; name = parts.Data; point = h.point; link = Some text_link } ∷ [];
    })
word-here feed w r h x b t text saw =
    let c : Cell = cell_here feed w b in
    let cs : List Cell = feed (after w.setting w.point) in
    let dark = t.white ∙ no-space x text in
    ap (λ (y : List Cell). at_break r y h) saw ∙ apart-none r (c ∷ cs) h dark
    ∙ apart-text r c cs h dark (t.pipe ∙ no-pipe x text) (t.ending ∙ no-end x text)
    ∙ ap
    (λ (y : List Cell).
    in_row r Text y
    (record h {
      events = h.events ++ record { kind = Enter; name = parts.Data; point = h.point; link = Some text_link } ∷ [];
    }))
    (sym saw)

word_means : (B : Behaviour) (feed : Feed) (r : Row) (w : World) (x : Piece) → HasRow B r → Sees feed w →
    piece w.current ≡ x → is_text x ≡ true →
    Steps B feed (Next (name_at r place.Break)) w (at_break_code r w Other).to (at_break_code r w Other).world
word_means B feed r w x has s e text =
    let saw = sees-piece feed w x s e (λ k. let no : false ≡ true = ap is_text (sym k) ∙ text in cc) in
    moves B feed _ _ w (at_break_code r w Other).world
    (record { kind = Enter; name = parts.Data; point = w.point; link = Some text_link } ∷ []) refl refl
    (has.each place.Break _ _ ∙ word-here feed w r (here w) x saw.byte (recorded-as saw.byte x saw.is) text saw.next
    ∙ sym (has.each place.Data _ _))

break_means : (B : Behaviour) (feed : Feed) (r : Row) (w : World) (x : Piece) → HasRow B r → Sees feed w →
    piece w.current ≡ x →
    Steps B feed (Next (name_at r place.Break)) w (at_break_code r w x).to (at_break_code r w x).world
break_means B feed r w Ends has s e = ends_means B feed r w has s e
break_means B feed r w Space has s e = white_means B feed r w has s e
break_means B feed r w Divides has s e = divides_means B feed r w has s e
break_means B feed r w Escapes has s e = word_means B feed r w Escapes has s e refl
break_means B feed r w Other has s e = word_means B feed r w Other has s e refl

-- In a word.

word_ends : (B : Behaviour) (feed : Feed) (r : Row) (w : World) (x : Piece) → HasRow B r → Sees feed w →
    IsRest w.scratch → piece w.current ≡ x → is_text x ≡ false →
    (let left : Transition =
    after_part r (record w { events = w.events ++ exit parts.Data w.point ∷ [] }) (is_space x) in
    Steps B feed (Next (name_at r place.Data)) w left.to left.world)
word_ends B feed r w x has s rest e none =
    following_means B feed r (Next (name_at r place.Data)) w (exit parts.Data w.point ∷ []) (is_space x) has s rest
    (piece-white w.current ∙ ap is_space e)
    (has.each place.Data _ _
    ∙ rw s.next (run-stops feed w r (here w) Text w.current (λ b is ending. stops b is ending)))
  where
    stops : (b : ℕ) → w.current ≡ Some b → nat_eq b 10 ≡ false → is_continued Text b ≡ false
    stops b is ending =
        let t = recorded-as b x (ap piece (sym is) ∙ e) in stops-at x t none (sym ending ∙ t.ending)
      where
        stops-at : (y : Piece) → Recorded b y → is_text y ≡ false → false ≡ is_end y → is_continued Text b ≡ false
        stops-at Ends t none k = let no : false ≡ true = k in cc
        stops-at Space t none k = rw t.white refl
        stops-at Divides t none k = rw (t.white, t.pipe) refl
        stops-at Escapes t none k = let no : true ≡ false = none in cc
        stops-at Other t none k = let no : true ≡ false = none in cc

word_continues : (B : Behaviour) (feed : Feed) (r : Row) (w : World) (x : Piece) (q : Place) (run : Run) → HasRow B r →
    Sees feed w → piece w.current ≡ x → is_text x ≡ true →
    ((b : ℕ) → Recorded b x → in_text b ≡ run) →
    ((cells : List Cell) (h : Here) → B (name_at r q) cells h ≡ in_row r run cells h) →
    Steps B feed (Next (name_at r place.Data)) w (Next (name_at r q)) (record w { point = after w.setting w.point })
word_continues B feed r w x q run has s e text to next =
    let saw = sees-piece feed w x s e (λ k. let no : false ≡ true = ap is_text (sym k) ∙ text in cc) in
    let t = recorded-as saw.byte x saw.is in
    let c : Cell = cell_here feed w saw.byte in
    let cs : List Cell = feed (after w.setting w.point) in
    passes B feed _ _ w (record w { point = after w.setting w.point }) refl refl
    (has.each place.Data _ _ ∙ ap (λ (y : List Cell). in_row r Text y (here w)) saw.next
    ∙ run-more r Text c cs (here w) (rw (t.white ∙ no-space x text, t.pipe ∙ no-pipe x text) refl)
    (t.ending ∙ no-end x text)
    ∙ ap (λ (y : Run). in_row r y cs (record (here w) { point = after w.setting w.point })) (to saw.byte t)
    ∙ sym (next _ _))

data_means : (B : Behaviour) (feed : Feed) (r : Row) (w : World) (x : Piece) → HasRow B r → Sees feed w →
    IsRest w.scratch → piece w.current ≡ x →
    Steps B feed (Next (name_at r place.Data)) w (data_code r w x).to (data_code r w x).world
data_means B feed r w Ends has s rest e = word_ends B feed r w Ends has s rest e refl
data_means B feed r w Space has s rest e = word_ends B feed r w Space has s rest e refl
data_means B feed r w Divides has s rest e = word_ends B feed r w Divides has s rest e refl
data_means B feed r w Escapes has s rest e =
    word_continues B feed r w Escapes place.Escape Escaped has s e refl (λ b t. rw t.slash refl) (has.each place.Escape)
data_means B feed r w Other has s rest e =
    word_continues B feed r w Other place.Data Text has s e refl (λ b t. rw t.slash refl) (has.each place.Data)

-- After a backslash.

or-none : (a b : Bool) → a || b ≡ false → (a ≡ false) × (b ≡ false)
or-none true b e = cc
or-none false true e = cc
or-none false false e = (refl, refl)

pair-dark : (b : ℕ) → nat_eq b 92 || nat_eq b 124 ≡ true → (is_white b ≡ false) × (nat_eq b 10 ≡ false)
pair-dark b e = go (nat_eq b 92) refl e
  where
    go : (x : Bool) → nat_eq b 92 ≡ x → x || nat_eq b 124 ≡ true → (is_white b ≡ false) × (nat_eq b 10 ≡ false)
    go true k e = rw (eqb-true b 92 k) (refl, refl)
    go false k e = rw (eqb-true b 124 e) (refl, refl)

escaped-stops : (feed : Feed) (w : World) (r : Row) (h : Here) (o : Option ℕ) → is_escaped o ≡ false →
    in_row r Escaped (ahead feed w o) h ≡ in_row r Text (ahead feed w o) h
escaped-stops feed w r h None e = run-ends_none r Escaped h ∙ sym (run-ends_none r Text h)
escaped-stops feed w r h (Some b) e =
    let k = or-none (nat_eq b 92) (nat_eq b 124) e in
    escaped-other r (cell_here feed w b) (feed (after w.setting w.point)) h k.0 k.1

escape_means : (B : Behaviour) (feed : Feed) (r : Row) (w : World) (x : Bool) → HasRow B r → Sees feed w →
    is_escaped w.current ≡ x →
    Steps B feed (Next (name_at r place.Escape)) w (escape_code r w x).to (escape_code r w x).world
escape_means B feed r w true has s e =
    let saw = sees-one feed w is_escaped refl s e in
    let dark = pair-dark saw.0 saw.2 in
    passes B feed _ _ w (escape_code r w true).world refl refl
    (has.each place.Escape _ _ ∙ ap (λ (y : List Cell). in_row r Escaped y (here w)) saw.1
    ∙ run-more r Escaped (cell_here feed w saw.0) (feed (after w.setting w.point)) (here w) (rw dark.0 refl) dark.1
    ∙ sym (has.each place.Data _ _))
escape_means B feed r w false has s e =
    passes B feed _ _ w w refl refl
    (has.each place.Escape _ _ ∙ rw s.next (escaped-stops feed w r (here w) w.current e)
    ∙ sym (has.each place.Data _ _))

-- After a pipe.

cell_before_means : (B : Behaviour) (feed : Feed) (r : Row) (w : World) (x : Bool) → HasRow B r → Sees feed w →
    IsRest w.scratch → sees_white w.current ≡ x →
    Steps B feed (Next (name_at r place.CellBefore)) w (after_part r w x).to (after_part r w x).world
cell_before_means B feed r w x has s rest e =
    let same : record w { events = w.events ++ [] } ≡ w =
    ap (λ (es : List Event). record w { events = es }) (append-nil w.events) in
    let on : proceeds B (Next (name_at r place.CellBefore)) (feed w.point) (here w) ≡
    in_row r Apart (feed w.point) (record (here w) { events = w.events ++ [] }) =
    has.each place.CellBefore _ _
    ∙ ap (λ (es : List Event). in_row r Apart (feed w.point) (record (here w) { events = es }))
    (sym (append-nil w.events)) in
    subst
    (λ (v : World).
    Steps B feed (Next (name_at r place.CellBefore)) w (after_part r v x).to (after_part r v x).world) same
    (following_means B feed r (Next (name_at r place.CellBefore)) w [] x has s rest e on)

-- each state of a row takes one step of what it means
pub row_means : (B : Behaviour) (feed : Feed) (r : Row) (p : Place) (w : World) → HasRow B r → Sees feed w →
    IsRest w.scratch →
    Steps B feed (Next (name_at r p)) w (row_transition r p w).to (row_transition r p w).world
row_means B feed r place.Start w has s rest = start_means B feed r w _ has s rest refl
row_means B feed r place.Break w has s rest = break_means B feed r w _ has s refl
row_means B feed r place.Data w has s rest = data_means B feed r w _ has s rest refl
row_means B feed r place.Escape w has s rest = escape_means B feed r w _ has s refl
row_means B feed r place.CellBefore w has s rest = cell_before_means B feed r w _ has s rest refl

-- what answers as the transition of a state does means what the state means
pub row_rule : (r : Row) (p : Place) (w new : World) (to : State) → to ≡ (row_transition r p w).to →
    new ≡ (row_transition r p w).world → RowMeans r p w to new
unfolding RowMeans
row_rule r p w new to e k rest B feed has s =
    steps-as B feed _ _ to w _ new e k (row_means B feed r p w has s rest)

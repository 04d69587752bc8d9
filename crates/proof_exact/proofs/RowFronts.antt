-- What is before a line, and where its rest begins: both are those of the cells of the line.
use Rattle.std.proofs.Common.{◌≡◌, ℕ, zero, suc, ◌+◌, ◌^◌, ◌<◌, ◌≤◌, Bool, true, false, cond, ◌&&◌, List, [], ◌∷◌, ◌++◌}
use Rattle.std.proofs.Common.{length, refl, sym, ap, ap₂, ◌∙◌, subst, subst₂, arith}
use Rattle.std.specs.Prelude.{◌==◌, not, Option, Some, None}
use Rattle.std.specs.Option.{is_some}
use Rattle.std.proofs.Math.Bool.{and_comm}
use Rattle.std.proofs.lemmas.Bool.Decides.{nat_tests}
use Rattle.std.proofs.lemmas.List.{length-append}
use Rattle.md_engine.specs.declared.configuration.ParseOptions.{ParseOptions}
use Rattle.md_engine.specs.declared.event.Event.{Event}
use Rattle.md_engine.specs.declared.event.Point.{Point}
use Rattle.md_engine.specs.declared.tokenizer.Line.{Line}
use Rattle.md_engine.specs.Meaning.{Cell}
use Rattle.md_meaning.specs.Containers.{Taken}
use Rattle.md_meaning.specs.Leaves.{LeafResult, NoText, starts}
use Rattle.md_meaning.specs.Rest.{Rest, is_blank}
use Rattle.md_meaning.specs.State.{Container, NoLeaf, OpenCode, Path, spot}
use Rattle.md_meaning.specs.Step.{is_concrete, is_open_text, step, with_lazy}
use Rattle.md_events.proofs.FeedLines.{Stops, byte_cells, cell, columns_more, spread, tab_cells, tab_end}
use Rattle.md_events.specs.Events.Places.{past_byte}
use Rattle.md_events.proofs.RestCells.{rest_cells}
use Rattle.md_events.specs.Exact.Places.{TextLine, whole}
use Rattle.md_events.specs.Exact.Blocks.{is_continued}
use Rattle.md_events.specs.Exact.Prefixes.{begins, following_all, containers, further_prefixes, taken_prefixes, new_containers}
use Rattle.md_events.specs.Exact.Prefixes.{opened}
use Rattle.md_events.specs.Exact.Rows as exact
use Rattle.md_events.specs.Exact.Rows.{Blank, Delimiter, FirstText, Further, FurtherText, Role, first_or, next_role}
use Rattle.md_events.specs.Exact.Rows.{role_before, role_on, row_of}
use Rattle.proof_exact_pieces.proofs.OnLine.{LineIn, OnLine, whole-on}
use Rattle.proof_exact_pieces.proofs.PlaceLemmas.{line_start}
use Rattle.proof_frame.specs.Change.{interrupts, is_none, others_of}
use Rattle.proof_frame.proofs.RegistryRead.{AreRead}
use Rattle.proof_rows.specs.Rows.{Front, Held, continued_prefixes, held_at, is_inside, new_after, no_front}
use Rattle.proof_rows.specs.Rows.{opened_prefixes}
use Rattle.proof_rows.specs.Valid.{IsPlain, containers_of, still_of}
use Rattle.proof_rows.proofs.FurtherSpan.{built-concrete}
use Rattle.proof_exact_lines.specs.Unlisted.{plain_begins, without_lists}
use Rattle.proof_exact_lines.proofs.RowEvents.{front-plain}
use Rattle.proof_exact_lines.proofs.StepLast.{opened-enough}
use Rattle.proof_exact.proofs.FrontSame.{IsFront, continued-same, opened-same}
use Rattle.proof_exact.proofs.Opened.{all-same, text-same}

-- There are at least as many cells as bytes.

tab-long : (said : Line) (n byte : ℕ) (p : Point) → 1 ≤ length (tab_cells said n byte p)
tab-long said zero byte p = omega arith
tab-long said (suc n) byte p = omega arith

bytes-long : (said : Line) (bytes : List ℕ) (p : Point) → length bytes ≤ length (spread said bytes p)
bytes-long said [] p = omega arith
bytes-long said (b ∷ bs) p =
    let more = bytes-long said bs (past_byte b p) in
    let all : length (spread said (b ∷ bs) p) ≡ length (byte_cells said b p) + length (spread said bs (past_byte b p)) =
    length-append (byte_cells said b p) (spread said bs (past_byte b p)) in
    omega (arith, more, all, some (b == 9))
  where
    some : (t : Bool) → 1 ≤ length (cond t (tab_cells said (columns_more p) 9 p) (cell b (past_byte b p) said ∷ []))
    some true = tab-long said (columns_more p) 9 p
    some false = omega arith

rest-long : (said : Line) (r : Rest) (p : Point) (stop : List Cell) →
    length r.bytes ≤ length (rest_cells said r p ++ stop)
rest-long said r p stop = go r.spaces
  where
    go : (spaces : ℕ) →
        length r.bytes ≤ length (rest_cells said (record r { spaces = spaces }) p ++ stop)
    go zero =
        let long = bytes-long said r.bytes p in
        let all = length-append (spread said r.bytes p) stop in
        omega (arith, long, all)
    go (suc n) =
        let long = bytes-long said r.bytes (tab_end n p) in
        let tab = length-append (tab_cells said n 32 p) (spread said r.bytes (tab_end n p)) in
        let all = length-append (tab_cells said n 32 p ++ spread said r.bytes (tab_end n p)) stop in
        omega (arith, long, tab, all)

-- The containers that open after those that continued.

new-same : (options : ParseOptions) (said : Line) (bytes following : List ℕ) (line : TextLine) (p : Path)
    (stop : List Cell) (proceeded : Front) →
    IsPlain p → LineIn bytes following line → Stops stop →
    let on = taken_prefixes options p (whole line) in
    let inner = following_all (whole line) on in
    let new = new_containers options p (length on == length (containers p)) inner in
    IsFront said bytes following line stop on (further_prefixes line (whole line) on) inner proceeded →
    IsFront said bytes following line stop new (plain_begins line inner new) (following_all inner new)
    (new_after options (still_of p) (others_of (containers_of p) proceeded.containers) proceeded)
new-same options said bytes following line p stop proceeded plain is k has =
    subst₂
    (λ (x y : Bool).
    Done (cond x [] (opened options y (length inner.bytes) inner)) (new_after options (still_of p) others proceeded))
    (sym inside) (sym interrupting) (go (is_inside (still_of p) others) (interrupts (still_of p) others))
  where
    on : List Taken
    on = taken_prefixes options p (whole line)

    inner : Rest
    inner = following_all (whole line) on

    others : List Container
    others = others_of (containers_of p) proceeded.containers

    all : (length on == length (containers p)) ≡ is_none others
    all =
        all-same options p (whole line)
        ∙ ap (λ (cs : List Container). is_none (others_of (containers_of p) cs)) has.containers

    inside : ((length on == length (containers p)) && is_concrete (spot p).leaf) ≡ is_inside (still_of p) others
    inside =
        ap₂ (λ (x y : Bool). x && y) all (built-concrete (spot p).leaf plain)
        ∙ and_comm (is_none others) _

    interrupting : ((length on == length (containers p)) && is_open_text (spot p).leaf) ≡
        interrupts (still_of p) others
    interrupting =
        ap₂ (λ (x y : Bool). x && y) all (text-same (spot p).leaf) ∙ and_comm (is_none others) _

    Done : List Taken → Front → Type 0
    Done ts f = IsFront said bytes following line stop ts (plain_begins line inner ts) (following_all inner ts) f

    short : length (rest_cells said inner proceeded.point ++ stop) < 2 ^ 63
    short = let size = ap (λ (l : List Cell). length l) has.cells in let few = has.short in omega (arith, size, few)

    long : length inner.bytes ≤ length proceeded.cells
    long =
        let size = ap (λ (l : List Cell). length l) has.cells in
        let most = rest-long said inner proceeded.point stop in omega (arith, size, most)

    go : (x y : Bool) →
        Done (cond x [] (opened options y (length inner.bytes) inner))
        (cond x (no_front proceeded.cells proceeded.point)
        (opened_prefixes options y (length proceeded.cells) proceeded.cells proceeded.point))
    go true y = record {
      containers = refl;
      events = refl;
      on = has.on;
      cells = has.cells;
      plain = has.plain;
      short = has.short;
    }
    go false y =
        subst (λ (ts : List Taken). Done ts (opened_prefixes options y (length proceeded.cells) proceeded.cells
        proceeded.point))
        (opened-enough options y (length proceeded.cells) (length inner.bytes) inner long (omega arith))
        (subst
        (λ (l : List Cell).
        Done (opened options y (length proceeded.cells) inner)
        (opened_prefixes options y (length proceeded.cells) l proceeded.point)) (sym has.cells)
        (opened-same options said bytes following line y (length proceeded.cells) inner proceeded.point stop is
        has.on has.plain k
        short))

-- So what is before a line is what its cells have, but for the begins of lists, and its rest is where the cells after
-- that begin.
pub record IsFronted (bytes following : List ℕ) (line : TextLine) (x : exact.Row) (h : Held) : Type 0 where
  pub front : without_lists x.front ≡ h.front
  pub on : OnLine bytes following line x.rest h.point

-- the cells of a line
abbrev pub line_cells : Line → TextLine → List Cell → List Cell
line_cells said line stop = rest_cells said (whole line) (line_start line) ++ stop

pub line-fronted : (options : ParseOptions) (said : Line) (bytes following : List ℕ) (line : TextLine) (p : Path)
    (stop : List Cell) (below : List exact.Row) →
    IsPlain p → AreRead (containers_of p) → LineIn bytes following line → Stops stop →
    length (line_cells said line stop) < 2 ^ 63 →
    IsFronted bytes following line (row_of options p line below)
    (held_at options (containers_of p) (still_of p) (line_cells said line stop) (line_start line))
unfolding held_at
line-fronted options said bytes following line p stop below plain read is k short =
    let proceeded = continued_prefixes options (containers_of p) (line_cells said line stop) (line_start line) in
    let has = continued-same options said bytes following line p (whole line) (line_start line) stop read is
    (whole-on bytes following line is) is.plain k short in
    let new = new-same options said bytes following line p stop proceeded plain is k has in
    record {
      front =
          front-plain options p line below ∙ ap₂ (λ (es fs : List Event). es ++ fs) has.events new.events;
      on = new.on;
    }

-- Before a line that continues a leaf no container opens.

before-begins : (next : Role) (r : Rest) (role : Role) → is_continued role ≡ false →
    is_continued (role_before next r role) ≡ false
before-begins Delimiter r role e = refl
before-begins (Further open_leaf) r role e = e
before-begins next r (Further (OpenCode lines)) e = cc
before-begins _ r _ e = e

role-begins : (options : ParseOptions) (r : Rest) → is_continued (role_on options NoLeaf r) ≡ false
role-begins options r = go (is_blank r.bytes) (starts options NoText r)
  where
    go : (x : Bool) (o : Option LeafResult) → is_continued (cond x Blank (first_or FirstText o)) ≡ false
    go true o = refl
    go false None = refl
    go false (Some c) = refl

pub further-front : (options : ParseOptions) (p : Path) (line : TextLine) (below : List exact.Row) →
    is_continued (row_of options p line below).role ≡ true →
    (row_of options p line below).front ≡ without_lists (row_of options p line below).front
further-front options p line below proceeds = go new refl
  where
    on : List Taken
    on = taken_prefixes options p (whole line)

    all : Bool
    all = length on == length (containers p)

    inner : Rest
    inner = following_all (whole line) on

    new : List Taken
    new = new_containers options p all inner

    rest : Rest
    rest = following_all inner new

    after : Path
    after = step options p (whole line)

    front : List Taken → List Event
    front ts = further_prefixes line (whole line) on ++ begins line after (length on) inner ts

    role_by : Bool → Bool → Role
    role_by a n =
        cond (not a && n && is_some (with_lazy options (spot p).leaf rest)) FurtherText
        (role_on options (cond (a && n) (spot p).leaf NoLeaf) rest)

    opens : (a : Bool) → role_by a false ≡ role_on options NoLeaf rest
    opens true = refl
    opens false = refl

    go : (ts : List Taken) → new ≡ ts → front new ≡ without_lists (front new)
    go [] e =
        ap front e
        ∙ sym (ap (λ (ts : List Taken). further_prefixes line (whole line) on ++ plain_begins line inner ts) e)
        ∙ sym (front-plain options p line below)
    go (t ∷ ts) e =
        let some : (length (t ∷ ts) == 0) ≡ false = grind (arith, nat_tests) in
        let role = ap (role_by all) (ap (λ (l : List Taken). length l == 0) e ∙ some) ∙ opens all in
        let bad : true ≡ false =
        sym proceeds ∙ ap (λ (role : Role). is_continued (role_before (next_role below) rest role)) role
        ∙ before-begins (next_role below) rest (role_on options NoLeaf rest) (role-begins options rest) in
        absurd (cc)

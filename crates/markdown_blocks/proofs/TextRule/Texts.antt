-- The lines of a text of a document are read by their cells.
use Rattle.std.proofs.Common.{◌≡◌, ◌≢◌, ℕ, ◌-◌, ◌^◌, ◌<◌, ◌≤◌, Bool, true, false, cond, List, [], ◌∷◌, ◌++◌, length}
use Rattle.std.proofs.Common.{refl, sym, ap, ap₂, ◌∙◌, subst, subst₂, append-nil, append_assoc, drop}
use Rattle.std.specs.List.{list_all}
use Rattle.std.proofs.lemmas.Bool.{and_parts}
use Rattle.md_engine.specs.declared.configuration.ParseOptions.{ParseOptions}
use Rattle.md_engine.specs.declared.event.Event.{Event}
use Rattle.md_engine.specs.declared.event.Point.{Point}
use Rattle.md_engine.specs.Meaning.{Cell}
use Rattle.md_engine.specs.TextFeed.{text_feed}
use Rattle.md_engine.specs.World.{World}
use Rattle.md_content.specs.ContentReads.{part_world}
use Rattle.md_events.specs.declared.inline.Chunk.{Chunk}
use Rattle.md_events.specs.Events.Places.{is_placed, past_text}
use Rattle.md_events.proofs.PlacesLemmas.{placed-facts}
use Rattle.md_events.specs.Exact.Places.{line_end, lines_from, next_line, place}
use Rattle.proof_exact_pieces.proofs.OnLine.{place-on}
use Rattle.md_events.specs.Exact.Rows.{AfterCode, First, Further, Head, Role, Row, Underline}
use Rattle.md_meaning.specs.Lines.{full_lines_of}
use Rattle.md_meaning.specs.State.{Leaf, NoLeaf, OpenCode, OpenParagraph}
use Rattle.md_meaning.specs.Rest.{Rest, is_blank}
use Rattle.markdown_blocks.specs.TextMet.{chunks_of, lines_begin}
use Rattle.markdown_blocks.specs.TextRule.{AreLeft, cells_of, is_text}
use Rattle.markdown_blocks.specs.TextsRead.{AreHeadRead, IsUnderline, groups_from}
use Rattle.markdown_blocks.proofs.PartBegins.{line-at}
use Rattle.markdown_blocks.proofs.TextRule.Lines.{AreFilled, AreNext, cells-are}
use Rattle.markdown_blocks.proofs.TextsRead.{UnderText, head-read, leaf-parts, under-text}
use Rattle.md_registry.specs.Registry.{leaf, trials}
use Rattle.proof_exact.proofs.BlocksSame.{following-put}
use Rattle.proof_exact.proofs.CutTexts.{along-are}
use Rattle.proof_exact.proofs.Fit.{Fit}
use Rattle.proof_exact.proofs.FitLines.{IsTextRole, text-role}
use Rattle.proof_exact.proofs.Fronts.{lines-front, row_with}
use Rattle.proof_exact.proofs.GroupsMatch.{GroupsMatch, Pairs, TakesEach, TakesLines, following_leaf, within_leaf}
use Rattle.proof_exact.proofs.LeafGroups.{Taken, lines-taken}
use Rattle.proof_exact.proofs.LinesExact.{BeginsLine, are-rows, lines-match, nothing as no_path, quiet as lines-quiet}
use Rattle.proof_exact.proofs.Put.{AllGo, AllPut, ArePut, IsPut, rows-put}
use Rattle.proof_exact.proofs.RowRoles.{following_code, in_code, row_role_by}
use Rattle.proof_exact.proofs.TextGroups.{WithLast, are-text, texts-at, with-last}
use Rattle.proof_content_laws.proofs.Defined.Along.{Turn}
use Rattle.proof_content_laws.proofs.Defined.Takes.{Walk}
use Rattle.proof_exact_lines.proofs.Along.{Along, row-place}
use Rattle.proof_exact_lines.proofs.Front.{begin}
use Rattle.proof_exact_lines.proofs.LeafLines.{ends-at}
use Rattle.proof_exact_lines.proofs.OnLine.{on-begins}
use Rattle.proof_frame.specs.LeafName.{first_of}
use Rattle.proof_frame.specs.RestLine.{rest_line}
use Rattle.proof_frame.specs.Row.{BlankRow, LeafRow, Row as FrameRow, RowKind, TextRow, chunks_of as row_chunks}
use Rattle.proof_frame.specs.Row.{last_row}
use Rattle.proof_literal_laws.specs.Leaf.CodeIndented.{is_code}
use Rattle.proof_rows.proofs.Defined.Cells.{lines-are, lines-walk, lines_are, turns_of, world-first}
use Rattle.proof_rows.proofs.EachRow.{EachRow}
use Rattle.proof_rows.proofs.GroupLines.{AreGroups, AreLines, AreSpan, first-text}
use Rattle.proof_rows.proofs.GroupsAre.{groups-are}
use Rattle.proof_rows.proofs.KindLemmas.{kind-text}
use Rattle.proof_rows.proofs.KindRoles.{further_role, leaf_role}
use Rattle.proof_rows.proofs.ParagraphReads.{part-read}
use Rattle.proof_rows.specs.Rows.{Group, Headed, LeafLines, Lines, Single, Turned, groups, kind_of}
use Rattle.proof_rows.specs.TextRows.{text_rows}
use Rattle.proof_rows.specs.WithoutMdx.{IsWithoutMdx}
use Rattle.md_engine.specs.declared.tokenizer.held_leaf.HeldLeaf.TheVariants as held_leaf
use Rattle.md_meaning.specs.Texts.{split_lines}

-- What is known of lines of a text: each is a row of text.
record KnownLines (options : ParseOptions) (bytes : List ℕ) (x : Row) (xs : List Row) : Type 0 where
  r : FrameRow
  rs : List FrameRow
  fit : Fit options bytes x r
  pairs : Pairs (Fit options bytes) xs rs
  go : AllGo xs
  are : AreLines options bytes r rs

-- and so of those after the first,
known-tail : (options : ParseOptions) (bytes : List ℕ) (x y : Row) (ys : List Row) →
    KnownLines options bytes x (y ∷ ys) → KnownLines options bytes y ys
known-tail options bytes x y ys k = by k.rs k.pairs k.are
  where
    by : (rs : List FrameRow) → Pairs (Fit options bytes) (y ∷ ys) rs → AreLines options bytes k.r rs →
        KnownLines options bytes y ys
    by [] pairs are = absurd pairs
    by (next ∷ rs) pairs are =
        record { r = next; rs = rs; fit = pairs.0; pairs = pairs.1; go = k.go.1; are = are.7 }

-- and of the last of them
known-last : (options : ParseOptions) (bytes : List ℕ) (passed : List Row) (y : Row) (ys : List Row) (x : Row)
    (xs : List Row) → x ∷ xs ≡ passed ++ y ∷ ys → KnownLines options bytes x xs → KnownLines options bytes y ys
known-last options bytes [] y ys x xs e k =
    let one : x ≡ y = cc in let rest : xs ≡ ys = cc in subst₂ (KnownLines options bytes) one rest k
known-last options bytes (p ∷ ps) y ys x [] e k = let rest : [] ≡ ps ++ y ∷ ys = cc in absurd (no ps rest)
  where
    no : (ps : List Row) → [] ≡ ps ++ y ∷ ys → ⊥
    no [] e = cc
    no (p ∷ ps) e = cc
known-last options bytes (p ∷ ps) y ys x (z ∷ zs) e k =
    known-last options bytes ps y ys z zs (let rest : z ∷ zs ≡ ps ++ y ∷ ys = cc in rest)
    (known-tail options bytes x z zs k)

-- none of them is blank
line-filled : (options : ParseOptions) (bytes : List ℕ) (x : Row) (r : FrameRow) → Fit options bytes x r →
    r.kind ≡ TextRow → is_blank x.rest.bytes ≡ false
line-filled options bytes x r fit text =
    subst (λ (s : Rest). is_blank s.bytes ≡ false) fit.rest
    (by (is_blank fit.is.rest.bytes) (kind-text options r.on fit.is.rest (sym fit.is.kind ∙ text)))
  where
    by : (b : Bool) →
        cond b BlankRow (kind_of (first_of (λ l. (leaf l).starts options r.on fit.is.rest) trials)) ≡ TextRow →
        b ≡ false
    by true e = cc
    by false e = refl

known-filled : (options : ParseOptions) (bytes : List ℕ) (x : Row) (r : FrameRow) (xs : List Row)
    (rs : List FrameRow) → Fit options bytes x r → Pairs (Fit options bytes) xs rs → AreLines options bytes r rs →
    AreFilled (x ∷ xs)
known-filled options bytes x r [] rs fit pairs are =
    (line-filled options bytes x r fit (first-text options bytes r rs are).2, tt)
known-filled options bytes x r (y ∷ ys) [] fit pairs are = absurd pairs
known-filled options bytes x r (y ∷ ys) (next ∷ rs) fit pairs are = (
  line-filled options bytes x r fit are.2,
  known-filled options bytes y next ys rs pairs.0 pairs.1 are.7,
)

-- They are where the cells of their rows do, which are in the text one after another,
known-along : (options : ParseOptions) (bytes : List ℕ) (x : Row) (xs : List Row) → (k : KnownLines options bytes x xs) →
    let are = lines-front options bytes x.front k.r k.rs k.are in
    Along bytes (x ∷ xs) k.r.first (lines_are options bytes (row_with x.front k.r) k.rs are)
    (turns_of options bytes (row_with x.front k.r) k.rs)
known-along options bytes x xs k =
    along-are options bytes x xs (row_with x.front k.r) k.rs (lines-front options bytes x.front k.r k.rs k.are)
    (texts-at options bytes x k.r xs k.rs k.fit k.pairs)
    (are-text options bytes x k.r xs k.rs k.fit k.pairs k.go k.are).are

known-walk : (options : ParseOptions) (bytes : List ℕ) → length bytes < 2 ^ 61 → (x : Row) (xs : List Row) →
    (k : KnownLines options bytes x xs) →
    let are = lines-front options bytes x.front k.r k.rs k.are in
    Walk bytes (last_row (row_with x.front k.r) k.rs).end k.r.first
    (lines_are options bytes (row_with x.front k.r) k.rs are) (turns_of options bytes (row_with x.front k.r) k.rs)
known-walk options bytes small x xs k =
    let r = row_with x.front k.r in
    let are = lines-front options bytes x.front k.r k.rs k.are in
    subst (λ (l : List Cell). Walk bytes (last_row r k.rs).end r.first l (turns_of options bytes r k.rs))
    (lines-are options bytes small r k.rs are) (lines-walk options bytes small r k.rs are)

-- so they are next where the first begins.
known-next : (options : ParseOptions) (bytes : List ℕ) → length bytes < 2 ^ 61 → (x : Row) (xs : List Row) →
    KnownLines options bytes x xs → AreNext bytes (x ∷ xs) (place x.line x.rest) (cells_of (x ∷ xs))
known-next options bytes small x xs k =
    subst₂ (AreNext bytes (x ∷ xs)) (sym (row-place bytes x xs r.first cells turns along))
    (cells-are bytes (last_row r k.rs).end r.first x xs cells turns walk along)
    (record {
      last = (last_row r k.rs).end;
      turns = turns;
      walk = walk;
      along = along;
      filled = known-filled options bytes x k.r xs k.rs k.fit k.pairs k.are;
    })
  where
    r : FrameRow
    r = row_with x.front k.r

    cells : List Cell
    cells = lines_are options bytes r k.rs (lines-front options bytes x.front k.r k.rs k.are)

    turns : List Turn
    turns = turns_of options bytes r k.rs

    along : Along bytes (x ∷ xs) r.first cells turns
    along = known-along options bytes x xs k

    walk : Walk bytes (last_row r k.rs).end r.first cells turns
    walk = known-walk options bytes small x xs k

-- Their chunks are those of the rows, so a tokenizer that reads them begins with the first.

row-end : (options : ParseOptions) (bytes : List ℕ) (x : Row) (r : FrameRow) → Fit options bytes x r →
    r.end ≡ place x.line (line_end x.line)
row-end options bytes x r fit =
    fit.is.end
    ∙ ap (λ (l : List ℕ). past_text l r.first) (fit.is.line_is ∙ ap (λ (s : Rest). rest_line s) fit.rest)
    ∙ sym (ends-at x.line x.rest r.first (on-begins bytes fit.following x.line x.rest r.first fit.within fit.on))

chunks-are : (options : ParseOptions) (bytes : List ℕ) (x : Row) (xs : List Row) (r : FrameRow) (rs : List FrameRow) →
    Fit options bytes x r → Pairs (Fit options bytes) xs rs → row_chunks r rs ≡ chunks_of (x ∷ xs)
chunks-are options bytes x [] r [] fit pairs =
    ap₂ (λ (p q : Point). (let c : Chunk = record { first = p; after = q } in c) ∷ [])
    (sym (place-on bytes fit.following x.line x.rest r.first fit.within fit.on)) (row-end options bytes x r fit)
chunks-are options bytes x (y ∷ ys) r (next ∷ rs) fit pairs =
    ap₂ (λ (p q : Point). (let c : Chunk = record { first = p; after = q } in c) ∷ row_chunks next rs)
    (sym (place-on bytes fit.following x.line x.rest r.first fit.within fit.on)) (sym fit.next)
    ∙ ap
    (λ (l : List Chunk).
    (let c : Chunk = record { first = place x.line x.rest; after = next_line x.line } in c) ∷ l)
    (chunks-are options bytes y ys next rs pairs.0 pairs.1)
chunks-are options bytes x [] r (next ∷ rs) fit pairs = absurd pairs
chunks-are options bytes x (y ∷ ys) r [] fit pairs = absurd pairs

chunks-with : (front : List Event) (r : FrameRow) (rs : List FrameRow) → row_chunks (row_with front r) rs ≡ row_chunks r rs
chunks-with front r [] = refl
chunks-with front r (next ∷ rs) = refl

-- at the first line, with the cells of all
pub record IsBegun (row : Row) (rows : List Row) (w : World) : Type 0 where
  pub point : w.point ≡ place row.line row.rest
  pub cells : text_feed w.setting w.point ≡ cells_of (row ∷ rows)
  pub small : w.setting.limit < 2 ^ 61

abbrev pub LinesBegin : ParseOptions → List ℕ → Row → List Row → Type 0
LinesBegin options bytes row rows = IsBegun row rows (lines_begin options bytes (row ∷ rows))

known-begin : (options : ParseOptions) (bytes : List ℕ) → length bytes < 2 ^ 61 → (x : Row) (xs : List Row) →
    KnownLines options bytes x xs → LinesBegin options bytes x xs
known-begin options bytes small x xs k =
    subst (λ (l : List Chunk). IsBegun x xs (part_world bytes options l))
    (chunks-with x.front k.r k.rs ∙ chunks-are options bytes x xs k.r k.rs k.fit k.pairs)
    (record {
      point = world-first options bytes r k.rs are ∙ sym (row-place bytes x xs r.first cells turns along);
      cells = lines-are options bytes small r k.rs are
          ∙ cells-are bytes (last_row r k.rs).end r.first x xs cells turns walk along;
      small = (part-read options options bytes small r k.rs are).small;
    })
  where
    r : FrameRow
    r = row_with x.front k.r

    are : AreLines options bytes r k.rs
    are = lines-front options bytes x.front k.r k.rs k.are

    cells : List Cell
    cells = lines_are options bytes r k.rs are

    turns : List Turn
    turns = turns_of options bytes r k.rs

    along : Along bytes (x ∷ xs) r.first cells turns
    along = known-along options bytes x xs k

    walk : Walk bytes (last_row r k.rs).end r.first cells turns
    walk = known-walk options bytes small x xs k

-- Groups.

abbrev first_text : List Row → Bool
first_text [] = false
first_text (x ∷ xs) = is_text x.role

-- A text with what underlines it, or lines of which the first is none of a text.
data GroupIs (options : ParseOptions) (bytes : List ℕ) (rows : List Row) : Type 0 where
  OtherLines : first_text rows ≡ false → GroupIs options bytes rows
  TextLines : (x : Row) (xs under : List Row) → rows ≡ (x ∷ xs) ++ under → IsUnderline under →
      KnownLines options bytes x xs → GroupIs options bytes rows

abbrev Each : ParseOptions → List ℕ → List (List Row) → Type 0
Each options bytes [] = Unit {0}
Each options bytes (rows ∷ groups) = GroupIs options bytes rows × Each options bytes groups

-- a line of a leaf that is no text, and a blank line
code-other : (role : Role) (r : FrameRow) (rs : List FrameRow) → is_text role ≡ false →
    is_text (following_code role r rs) ≡ false
code-other (Further (OpenCode lines)) r rs h = go (in_code r rs)
  where
    go : (x : Bool) → is_text (cond x (Further (OpenCode lines)) AfterCode) ≡ false
    go true = refl
    go false = refl
code-other _ r rs h = h

further-other : (open_leaf : Leaf) (heads : Bool) → is_text (further_role open_leaf heads) ≡ false
further-other (OpenParagraph lines) true = refl
further-other (OpenParagraph lines) false = refl
further-other _ heads = refl

kind-other : (options : ParseOptions) (open_leaf : Leaf) (s : Rest) (r : FrameRow) (rs : List FrameRow)
    (kind : RowKind) → kind ≢ TextRow → is_text (row_role_by options open_leaf s r rs kind) ≡ false
kind-other options open_leaf s r rs BlankRow other = refl
kind-other options open_leaf s r rs (LeafRow l) other =
    code-other (leaf_role options open_leaf r.on s l) r rs (go ((leaf l).further r.on))
  where
    go : (x : Bool) →
        is_text
        (cond x (further_role open_leaf (leaf l).heads) (First ((leaf l).becomes options NoLeaf s))) ≡ false
    go true = further-other open_leaf (leaf l).heads
    go false = refl
kind-other options open_leaf s r rs TextRow other = absurd (other refl)

fit-other : (options : ParseOptions) (bytes : List ℕ) (x : Row) (xs : List Row) (r : FrameRow) →
    Fit options bytes x r → r.kind ≢ TextRow → GroupIs options bytes (x ∷ xs)
fit-other options bytes x xs r fit other =
    OtherLines (ap is_text fit.role ∙ kind-other options fit.open_leaf x.rest r fit.below r.kind other)

-- each group, where the first lines that are put together are its
group-known : (options : ParseOptions) (bytes : List ℕ) (r : FrameRow) (rs : List FrameRow)
    (More : List (List Row) → Type 0) (ess : List (List Row)) → TakesLines (Fit options bytes) (r ∷ rs) More ess →
    ArePut ess →
    ((x : Row) (xs : List Row) → Fit options bytes x r → Pairs (Fit options bytes) xs rs → IsPut (x ∷ xs) →
    GroupIs options bytes (x ∷ xs)) →
    ((following : List (List Row)) → More following → AllPut following → Each options bytes following) →
    Each options bytes ess
group-known options bytes r rs More ess takes put group more =
    subst (Each options bytes) (sym t.same) (group t.x t.xs t.fit t.pairs puts.0, more t.following t.more puts.1)
  where
    t : Taken (Fit options bytes) r rs More ess
    t = lines-taken (Fit options bytes) r rs More ess takes

    puts : ArePut ((t.x ∷ t.xs) ∷ t.following)
    puts = subst ArePut t.same put

abbrev IsOther : FrameRow → Type 0
IsOther r = r.kind ≢ TextRow

each-known : (options : ParseOptions) (bytes : List ℕ) (rs : List FrameRow) (More : List (List Row) → Type 0)
    (ess : List (List Row)) → TakesEach (Fit options bytes) rs More ess → AllPut ess → EachRow IsOther rs →
    ((following : List (List Row)) → More following → AllPut following → Each options bytes following) →
    Each options bytes ess
each-known options bytes [] More ess takes put other more = more ess takes put
each-known options bytes (r ∷ rs) More ess takes put other more =
    group-known options bytes r [] (TakesEach (Fit options bytes) rs More) ess takes (following-put ess put)
    (λ x xs fit pairs puts. fit-other options bytes x xs r fit other.0)
    (λ following takes_more puts. each-known options bytes rs More following takes_more puts other.1 more)

-- the lines of a leaf of several
span-other : (options : ParseOptions) (bytes : List ℕ) (r : FrameRow) (rs : List FrameRow) →
    AreSpan options bytes r rs → EachRow IsOther (r ∷ rs)
span-other options bytes r [] are = (λ e. let bad : LeafRow are.name ≡ TextRow = sym are.kind ∙ e in cc, tt)
span-other options bytes r (next ∷ rs) are = (
  λ e. let bad : LeafRow are.0.name ≡ TextRow = sym are.0.kind ∙ e in cc,
  span-other options bytes next rs are.8,
)

each-last : (rs ss : List FrameRow) → EachRow IsOther (rs ++ ss) → EachRow IsOther ss
each-last [] ss h = h
each-last (r ∷ rs) ss h = each-last rs ss h.1

-- the first of lines go on as all do
go-front : (xs more : List Row) → AllGo (xs ++ more) → AllGo xs
go-front [] more h = tt
go-front (y ∷ ys) more h = (h.0, go-front ys more h.1)

-- a head
head-other : (x y : Row) (xs : List Row) (old new : List Event) → AreHeadRead (x ∷ y ∷ xs) old new → x.role ≡ Head
head-other x y xs old new h = ap (λ (row : Row). row.role) (same h.head h.others h.are) ∙ h.is_head
  where
    same : (head : Row) (others : List Row) → x ∷ y ∷ xs ≡ head ∷ others → x ≡ head
    same head others e = cc

groups-known : (options : ParseOptions) (bytes : List ℕ) (gs : List Group) (ess : List (List Row)) →
    AreGroups options bytes gs → GroupsMatch (Fit options bytes) gs ess → ArePut ess → Each options bytes ess
groups-known options bytes [] ess are match put = subst (Each options bytes) (sym match) tt
groups-known options bytes (Single r ∷ gs) ess are match put =
    group-known options bytes r [] (GroupsMatch (Fit options bytes) gs) ess match put
    (λ x xs fit pairs puts. fit-other options bytes x xs r fit are.0.other)
    (λ following more puts. groups-known options bytes gs following are.1 more (following-put following puts))
groups-known options bytes (Lines r rs ∷ gs) ess are match put =
    group-known options bytes r rs (GroupsMatch (Fit options bytes) gs) ess match put
    (λ x xs fit pairs puts.
    TextLines x xs [] (sym (append-nil (x ∷ xs))) tt
    (record { r = r; rs = rs; fit = fit; pairs = pairs; go = puts.1; are = are.0 }))
    (λ following more puts. groups-known options bytes gs following are.3 more (following-put following puts))
groups-known options bytes (Turned r rs under ∷ gs) ess are match put =
    group-known options bytes r (rs ++ under ∷ []) (GroupsMatch (Fit options bytes) gs) ess match put turned
    (λ following more puts. groups-known options bytes gs following are.4 more (following-put following puts))
  where
    turned : (x : Row) (xs : List Row) → Fit options bytes x r → Pairs (Fit options bytes) xs (rs ++ under ∷ []) →
        IsPut (x ∷ xs) → GroupIs options bytes (x ∷ xs)
    turned x xs fit pairs puts =
        let last : WithLast (Fit options bytes) xs rs under = with-last (Fit options bytes) xs rs under pairs in
        let turns : UnderText under last.u =
        under-text options bytes last.u r under rs last.fit are.0 are.1 in
        TextLines x last.xs (last.u ∷ []) (ap (λ (l : List Row). x ∷ l) last.same) turns.role
        (record {
          r = r;
          rs = rs;
          fit = fit;
          pairs = last.pairs;
          go = go-front last.xs (last.u ∷ []) (subst AllGo last.same puts.1);
          are = are.0;
        })
groups-known options bytes (Headed r next rs ∷ gs) ess are match put =
    group-known options bytes r (next ∷ rs) (GroupsMatch (Fit options bytes) gs) ess match put headed
    (λ following more puts. groups-known options bytes gs following are.4 more (following-put following puts))
  where
    headed : (x : Row) (xs : List Row) → Fit options bytes x r → Pairs (Fit options bytes) xs (next ∷ rs) →
        IsPut (x ∷ xs) → GroupIs options bytes (x ∷ xs)
    headed x [] fit pairs puts = absurd pairs
    headed x (y ∷ ys) fit pairs puts =
        OtherLines
        (ap is_text
        (head-other x y ys _ _ (head-read options bytes x y r next ys rs fit pairs.0 puts are.0 are.1 are.5)))
groups-known options bytes (LeafLines r rs ∷ gs) ess are match put =
    group-known options bytes r inside (TakesEach (Fit options bytes) outside (GroupsMatch (Fit options bytes) gs)) ess
    match put (λ x xs fit pairs puts. fit-other options bytes x xs r fit others.0)
    (λ following takes puts.
    each-known options bytes outside (GroupsMatch (Fit options bytes) gs) following takes puts
    (each-last inside outside
    (subst (EachRow IsOther) (sym (leaf-parts (is_code r.following) rs)) others.1))
    (λ below more puts_below. groups-known options bytes gs below are.2 more (following-put below puts_below)))
  where
    inside : List FrameRow
    inside = within_leaf (is_code r.following) rs

    outside : List FrameRow
    outside = following_leaf (is_code r.following) rs

    others : EachRow IsOther (r ∷ rs)
    others = span-other options bytes r rs are.0

-- Those of the lines from a point on.
from-known : (options : ParseOptions) (bytes : List ℕ) (p : Point) → IsWithoutMdx options → length bytes < 2 ^ 61 →
    is_placed bytes p ≡ true → p.vs ≡ 0 → 1 ≤ p.column → Each options bytes (groups_from options bytes p)
from-known options bytes p built small placed whole column =
    let fulls : List (List ℕ) = full_lines_of (drop p.index bytes) in
    let at : BeginsLine bytes p.line p.index (p.column - 1) fulls =
    line-at bytes p (placed-facts bytes p placed) whole column in
    let q : Point = begin p.line p.index (p.column - 1) in
    let rows : List FrameRow = text_rows options bytes q in
    groups-known options bytes (groups rows) (groups_from options bytes p)
    (groups-are options bytes [] held_leaf.None q (split_lines (drop p.index bytes)) rows (refl, refl)
    (are-rows options bytes built small p.line p.index (p.column - 1) fulls at)
    (lines-quiet options bytes built small p.line p.index (p.column - 1) fulls at))
    (lines-match options bytes built small p.line p.index (p.column - 1) fulls at)
    (rows-put options no_path (lines_from p.line p.index (p.column - 1) fulls))

-- one of them
each-at : (options : ParseOptions) (bytes : List ℕ) (front : List (List Row)) (rows : List Row)
    (back : List (List Row)) → Each options bytes (front ++ rows ∷ back) → GroupIs options bytes rows
each-at options bytes [] rows back h = h.0
each-at options bytes (g ∷ front) rows back h = each-at options bytes front rows back h.1

-- Lines that are parted from what underlines them are so in one way.

abbrev NoUnder : List Row → Type 0
NoUnder [] = Unit {0}
NoUnder (row ∷ rows) = (row.role ≢ Underline) × NoUnder rows

parted-once : (xs ys us vs : List Row) → NoUnder xs → NoUnder ys → IsUnderline us → IsUnderline vs →
    xs ++ us ≡ ys ++ vs → xs ≡ ys
parted-once [] [] us vs h k u v e = refl
parted-once [] (y ∷ ys) [] vs h k u v e = cc
parted-once [] (y ∷ ys) (w ∷ []) vs h k u v e =
    let same : w ≡ y = cc in absurd (k.0 (ap (λ (row : Row). row.role) (sym same) ∙ u))
parted-once [] (y ∷ ys) (w ∷ z ∷ us) vs h k u v e = absurd u
parted-once (x ∷ xs) [] us [] h k u v e = cc
parted-once (x ∷ xs) [] us (w ∷ []) h k u v e =
    let same : w ≡ x = cc in absurd (h.0 (ap (λ (row : Row). row.role) (sym same) ∙ v))
parted-once (x ∷ xs) [] us (w ∷ z ∷ vs) h k u v e = absurd v
parted-once (x ∷ xs) (y ∷ ys) us vs h k u v e =
    let same : x ≡ y = cc in
    let rest : xs ++ us ≡ ys ++ vs = cc in
    ap (λ (row : Row). row ∷ xs) same ∙ ap (λ (l : List Row). y ∷ l) (parted-once xs ys us vs h.1 k.1 u v rest)

text-under : (role : Role) → is_text role ≡ true → role ≢ Underline
text-under Underline h e = cc
text-under _ h e = cc

texts-under : (rows : List Row) → list_all (λ (row : Row). is_text row.role) rows ≡ true → NoUnder rows
texts-under [] h = tt
texts-under (row ∷ rows) h =
    let parts = and_parts (is_text row.role) (list_all (λ (r : Row). is_text r.role) rows) h in
    (text-under row.role parts.0, texts-under rows parts.1)

role-under : (role : Role) → IsTextRole role → role ≢ Underline
role-under Underline h e = absurd h
role-under _ h e = cc

line-under : (options : ParseOptions) (bytes : List ℕ) (x : Row) (r : FrameRow) → Fit options bytes x r →
    r.kind ≡ TextRow → x.role ≢ Underline
line-under options bytes x r fit text = role-under x.role (text-role options bytes x r fit text)

known-under : (options : ParseOptions) (bytes : List ℕ) (x : Row) (r : FrameRow) (xs : List Row) (rs : List FrameRow) →
    Fit options bytes x r → Pairs (Fit options bytes) xs rs → AreLines options bytes r rs → NoUnder (x ∷ xs)
known-under options bytes x r [] rs fit pairs are =
    (line-under options bytes x r fit (first-text options bytes r rs are).2, tt)
known-under options bytes x r (y ∷ ys) [] fit pairs are = absurd pairs
known-under options bytes x r (y ∷ ys) (next ∷ rs) fit pairs are = (
  line-under options bytes x r fit are.2,
  known-under options bytes y next ys rs pairs.0 pairs.1 are.7,
)

-- the first of lines of text is one
first-is_text : (passed : List Row) (row : Row) (rows under : List Row) →
    list_all (λ (r : Row). is_text r.role) (passed ++ row ∷ rows) ≡ true →
    first_text (passed ++ ((row ∷ rows) ++ under)) ≡ true
first-is_text [] row rows under h =
    (and_parts (is_text row.role) (list_all (λ (r : Row). is_text r.role) rows) h).0
first-is_text (p ∷ passed) row rows under h =
    (and_parts (is_text p.role) (list_all (λ (r : Row). is_text r.role) (passed ++ row ∷ rows)) h).0

-- So lines that are left of a text are such.
left-known : (options : ParseOptions) (bytes : List ℕ) → IsWithoutMdx options → length bytes < 2 ^ 61 → (row : Row)
    (rows : List Row) → AreLeft options bytes (row ∷ rows) → KnownLines options bytes row rows
left-known options bytes built small row rows is =
    go
    (each-at options bytes is.front (is.passed ++ ((row ∷ rows) ++ is.under)) is.back
    (subst (Each options bytes) is.groups (from-known options bytes is.from built small is.placed is.whole is.column)))
  where
    go : GroupIs options bytes (is.passed ++ ((row ∷ rows) ++ is.under)) → KnownLines options bytes row rows
    go (OtherLines other) =
        let some = first-is_text is.passed row rows is.under is.lines in
        let bad : true ≡ false = sym some ∙ other in cc
    go (TextLines x xs under same underlines known) =
        known-last options bytes is.passed row rows x xs
        (parted-once (x ∷ xs) (is.passed ++ row ∷ rows) under is.under
        (known-under options bytes x known.r xs known.rs known.fit known.pairs known.are)
        (texts-under (is.passed ++ row ∷ rows) is.lines) underlines is.underlines
        (sym same ∙ sym (append_assoc is.passed (row ∷ rows) is.under)))
        known

-- They are next,
pub left-next : (options : ParseOptions) (bytes : List ℕ) → IsWithoutMdx options → length bytes < 2 ^ 61 → (row : Row)
    (rows : List Row) → AreLeft options bytes (row ∷ rows) →
    AreNext bytes (row ∷ rows) (place row.line row.rest) (cells_of (row ∷ rows))
left-next options bytes built small row rows is =
    known-next options bytes small row rows (left-known options bytes built small row rows is)

-- and a tokenizer that reads them begins with the first.
pub left-begin : (options : ParseOptions) (bytes : List ℕ) → IsWithoutMdx options → length bytes < 2 ^ 61 → (row : Row)
    (rows : List Row) → AreLeft options bytes (row ∷ rows) → LinesBegin options bytes row rows
left-begin options bytes built small row rows is =
    known-begin options bytes small row rows (left-known options bytes built small row rows is)

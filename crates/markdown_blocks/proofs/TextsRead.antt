-- What reading content makes of the lines of a text, in words of the exact list.
use Rattle.md_engine.specs.declared.tokenizer.held_leaf.HeldLeaf.TheVariants as held_leaf
use Rattle.md_engine.specs.declared.tokenizer.held_leaf.OpenText.{OpenText}
use Rattle.std.proofs.Common.{◌≡◌, ◌≢◌, inl, inr, ℕ, ◌-◌, ◌^◌, ◌<◌, Bool, true, false, List, [], ◌∷◌, ◌++◌}
use Rattle.std.proofs.Common.{length, drop, refl, sym, ap, ap₂, ◌∙◌, subst, append-nil, append_assoc}
use Rattle.std.specs.Prelude.{flat_map}
use Rattle.std.proofs.lemmas.Bool.{or_from}
use Rattle.std.proofs.lemmas.List.Folds.{list_any-append}
use Rattle.md_engine.specs.declared.configuration.ParseOptions.{ParseOptions}
use Rattle.md_engine.specs.declared.event.Event.{Event}
use Rattle.md_engine.specs.declared.event.Name.TheVariants as n
use Rattle.md_engine.specs.declared.event.Point.{Point}
use Rattle.md_engine.specs.Found.{Found}
use Rattle.md_engine.specs.World.{World}
use Rattle.md_content.specs.Chunks.{content_link}
use Rattle.md_content.specs.ContentReads.{content_readings, wants_content}
use Rattle.md_content.specs.Joined.{is_content, joined}
use Rattle.md_events.specs.Events.Nested.{enter_link, exit}
use Rattle.md_events.specs.Substituted.{Substituted}
use Rattle.md_events.specs.Exact.Blocks.{grouped}
use Rattle.md_events.specs.Exact.Leaves.{leaf as leaf_lines, runs_line}
use Rattle.md_events.specs.Exact.Places.{lines_from}
use Rattle.md_events.specs.Exact.Rows.{Delimiter, Row, Underline}
use Rattle.md_events.specs.Exact.Rows.{rows_of as exact_rows}
use Rattle.md_link_definitions.specs.OpenText.{open_text}
use Rattle.md_link_definitions.specs.Progress.{progress_of, step}
use Rattle.md_meaning.specs.Lines.{full_lines_of}
use Rattle.md_meaning.specs.Rest.{trim_start}
use Rattle.md_meaning.specs.State.{kept}
use Rattle.md_meaning.specs.Texts.{split_lines}
use Rattle.md_registry.specs.Registry.{leaf}
use Rattle.md_registry.proofs.UnderNames.{further-text, heads-table}
use Rattle.proof_exact.proofs.BlocksSame.{following-put}
use Rattle.proof_exact.proofs.Fit.{Fit}
use Rattle.proof_exact.proofs.FitLines.{first-same, leaf-added, leaf-starts, read-as, tail-same, text-further}
use Rattle.proof_exact.proofs.Following.{inner-outer}
use Rattle.proof_exact.proofs.GroupsMatch.{GroupsMatch, Pairs, TakesEach, TakesLines, following_leaf, within_leaf}
use Rattle.proof_exact.proofs.LeafGroups.{Taken, lines-taken}
use Rattle.proof_exact.proofs.Put.{AllGo, AllPut, ArePut, IsPut, rows-put}
use Rattle.proof_exact.proofs.LinesExact.{BeginsLine, are-rows, lines-match, nothing as no_path, quiet as lines-quiet}
use Rattle.proof_exact.proofs.TextGroups.{LeavesText, WithLast, lines-same, with-last}
use Rattle.proof_exact_lines.proofs.Front.{begin}
use Rattle.proof_exact_lines.proofs.LeafLines.{underline-one}
use Rattle.proof_exact_lines.proofs.Spans.{SameLine}
use Rattle.proof_exact_lines.specs.Unlisted.{unlisted_group}
use Rattle.proof_frame.proofs.ContentFacts.{NoContent, nothing, nothing-wanted}
use Rattle.proof_frame.proofs.EventNames.{recorded-content}
use Rattle.proof_frame.proofs.FrontNames.{HasFront}
use Rattle.proof_frame.specs.LeafName.{CodeFurther, GfmTable, HeadingSetext, LeafName}
use Rattle.proof_frame.specs.Row.{LeafRow, Row as FrameRow, RowKind, TextRow, ending_of, last_row, row_line}
use Rattle.proof_literal_laws.specs.Leaf.CodeIndented.{is_code}
use Rattle.proof_leaf_laws.proofs.HeadingSetext.Kinds.{setext-starts}
use Rattle.proof_rows.proofs.EachRow.{AsSingle, AsSpan, AsText, EachRow, OfSpan, OfTable, OfText, OfTurned, Onto}
use Rattle.proof_rows.proofs.EachRow.{OverLine, onto}
use Rattle.proof_rows.proofs.GroupLines.{AreGroups, AreLines, AreSpan, IsHead, IsSpanLine, IsUnder}
use Rattle.proof_rows.proofs.GroupLines.{line-further, span-begins}
use Rattle.proof_rows.proofs.GroupsAre.{groups-are}
use Rattle.proof_rows.proofs.JoinedLemmas.{EachNoContent, HasNoContent, events-no_content, has_front-no_content}
use Rattle.proof_rows.proofs.LineAfter.{line-heads}
use Rattle.proof_rows.specs.Rows.{Group, Headed, LeafLines, Lines, Single, Turned, groups, is_further}
use Rattle.proof_rows.specs.Rows.{leaf_events, line_following, row_events, rows_events, tail_events}
use Rattle.proof_rows.specs.Rows.{takes_head}
use Rattle.proof_rows.specs.TextRows.{text_rows}
use Rattle.proof_rows.specs.Unread.{unread_group, unread_groups}
use Rattle.proof_rows.specs.WithoutMdx.{IsWithoutMdx}
use Rattle.proof_leaf_laws.proofs.GfmTable.Head.{head-no_content}
use Rattle.proof_leaf_laws.specs.Headed.{headed_row, heads_read}
use Rattle.markdown_blocks.specs.ContentRead.{ReadIf, holds_content}
use Rattle.markdown_blocks.specs.FlowReads.{IsFlowRead}
use Rattle.markdown_blocks.specs.TextsRead.{AreGroupsRead, AreHeadRead, AreTextRead, AreTextsRead, IsGroupRead}
use Rattle.markdown_blocks.specs.TextsRead.{BeginsPart, groups_from, on_line, underline, unread_line}
use Rattle.markdown_blocks.proofs.ContentGroups.{content-are}
use Rattle.markdown_blocks.proofs.FlowReads.{AreFlushed, content-step, text-framed, text-quiet}
use Rattle.markdown_blocks.proofs.PartBegins.{part-line, part-may, part-point}

-- Events among which is no line of text.

quiet-holds : (es : List Event) → NoContent nothing es → holds_content es ≡ false
quiet-holds [] h = refl
quiet-holds (e ∷ es) h =
    or_from (is_content e.name) (holds_content es) (recorded-content e.name h.1) (quiet-holds es h.2)

both-quiet : (xs ys : List Event) → holds_content xs ≡ false → holds_content ys ≡ false →
    holds_content (xs ++ ys) ≡ false
both-quiet xs ys h k =
    list_any-append (λ (e : Event). is_content e.name) xs ys ∙ or_from (holds_content xs) (holds_content ys) h k

abbrev IsQuiet : FrameRow → Type 0
IsQuiet r = holds_content (row_events r) ≡ false

row-quiet : (bytes : List ℕ) (r : FrameRow) → r.kind ≢ TextRow → HasFront bytes r → HasNoContent r → IsQuiet r
row-quiet bytes r other front inside =
    quiet-holds (row_events r)
    (events-no_content nothing r r.kind refl other (has_front-no_content nothing nothing-wanted bytes r front)
    (inside nothing nothing-wanted))

rows-quiet : (rs : List FrameRow) → EachRow IsQuiet rs → holds_content (rows_events rs) ≡ false
rows-quiet [] h = refl
rows-quiet (r ∷ rs) h = both-quiet (row_events r) (rows_events rs) h.0 (rows-quiet rs h.1)

line-quiet : (options : ParseOptions) (bytes : List ℕ) (r : FrameRow) → IsSpanLine options bytes r →
    HasNoContent r → IsQuiet r
line-quiet options bytes r line inside =
    row-quiet bytes r (λ e. let bad : LeafRow line.name ≡ TextRow = sym line.kind ∙ e in cc) line.front inside

span-quiet : (options : ParseOptions) (bytes : List ℕ) (r : FrameRow) (rs : List FrameRow) →
    AreSpan options bytes r rs → EachNoContent (r ∷ rs) → EachRow IsQuiet (r ∷ rs)
span-quiet options bytes r [] are inside = (line-quiet options bytes r are inside.0, tt)
span-quiet options bytes r (next ∷ rs) are inside =
    (line-quiet options bytes r are.0 inside.0, span-quiet options bytes next rs are.8 inside.1)

-- The events of lines are those of their groups.

abbrev group_rows : Group → List FrameRow
group_rows (Single r) = r ∷ []
group_rows (Lines r rs) = r ∷ rs
group_rows (Turned r rs under) = r ∷ (rs ++ under ∷ [])
group_rows (Headed r next rs) = r ∷ next ∷ rs
group_rows (LeafLines r rs) = r ∷ rs

abbrev flow_groups : List Group → List Event
flow_groups [] = []
flow_groups (g ∷ gs) = rows_events (group_rows g) ++ flow_groups gs

onto-events : (r : FrameRow) (gs all : List Group) → Onto r gs all → row_events r ++ flow_groups gs ≡ flow_groups all
onto-events r gs all o = go gs all o
  where
    alone : (gs : List Group) → row_events r ++ flow_groups gs ≡ (row_events r ++ []) ++ flow_groups gs
    alone gs = ap (λ (l : List Event). l ++ flow_groups gs) (sym (append-nil (row_events r)))

    before : (rs : List FrameRow) (gs : List Group) →
        row_events r ++ (rows_events rs ++ flow_groups gs) ≡ rows_events (r ∷ rs) ++ flow_groups gs
    before rs gs = sym (append_assoc (row_events r) (rows_events rs) (flow_groups gs))

    go : (gs all : List Group) → Onto r gs all → row_events r ++ flow_groups gs ≡ flow_groups all
    go _ _ (AsSingle gs) = alone gs
    go _ _ (AsText gs) = alone gs
    go _ _ (AsSpan gs) = alone gs
    go _ _ (OfText below rows gs) = before (below ∷ rows) gs
    go _ _ (OfTurned below rows under gs) = before (below ∷ (rows ++ under ∷ [])) gs
    go _ _ (OfSpan below rows gs) = before (below ∷ rows) gs
    go _ _ (OfTable below rows gs) = before (below ∷ rows) gs
    go _ _ (OverLine under gs) = before (under ∷ []) gs

groups-events : (rs : List FrameRow) → rows_events rs ≡ flow_groups (groups rs)
groups-events [] = refl
groups-events (r ∷ rs) =
    ap (λ (l : List Event). row_events r ++ l) (groups-events rs)
    ∙ onto-events r (groups rs) (groups (r ∷ rs)) (onto r r.kind (groups rs))

rows-append : (rs ss : List FrameRow) → rows_events (rs ++ ss) ≡ rows_events rs ++ rows_events ss
rows-append [] ss = refl
rows-append (r ∷ rs) ss =
    ap (λ (l : List Event). row_events r ++ l) (rows-append rs ss)
    ∙ sym (append_assoc (row_events r) (rows_events rs) (rows_events ss))

-- Lines of text.

line-same : (options : ParseOptions) (bytes : List ℕ) (x : Row) (r : FrameRow) → Fit options bytes x r →
    r.kind ≡ TextRow → (es fs : List Event) → es ≡ fs →
    on_line x es ≡ r.front ++ fs ++ tail_events (ending_of r.kind r) r
line-same options bytes x r fit text es fs same =
    ap₂ (λ (l m : List Event). l ++ m) (ap₂ (λ (l m : List Event). l ++ m) fit.front same)
    (tail-same options bytes x r fit (λ e. let bad : TextRow ≡ LeafRow CodeFurther = sym text ∙ e in absurd (cc)))

text-line : (options : ParseOptions) (bytes : List ℕ) (x : Row) (r : FrameRow) → Fit options bytes x r →
    r.kind ≡ TextRow → unread_line x ≡ row_events r
text-line options bytes x r fit text =
    line-same options bytes x r fit text _ (leaf_events TextRow r)
    (ap₂ (λ (p q : Point). enter_link n.Content p content_link ∷ exit n.Content q ∷ []) same.begin same.end)
    ∙ ap (λ (k : RowKind). r.front ++ leaf_events k r ++ tail_events (ending_of r.kind r) r) (sym text)
  where
    same : SameLine (record x { front = r.front }) r
    same = first-same options bytes x r fit

text-lines : (options : ParseOptions) (bytes : List ℕ) (x : Row) (r : FrameRow) (xs : List Row) (rs : List FrameRow) →
    Fit options bytes x r → Pairs (Fit options bytes) xs rs → AreLines options bytes r rs →
    flat_map unread_line (x ∷ xs) ≡ rows_events (r ∷ rs)
text-lines options bytes x r [] [] fit pairs are =
    ap (λ (l : List Event). l ++ []) (text-line options bytes x r fit are.2)
text-lines options bytes x r (y ∷ ys) (next ∷ rs) fit pairs are =
    ap₂ (λ (l m : List Event). l ++ m) (text-line options bytes x r fit are.2)
    (text-lines options bytes y next ys rs pairs.0 pairs.1 are.7)
text-lines options bytes x r [] (next ∷ rs) fit pairs are = absurd pairs
text-lines options bytes x r (y ∷ ys) [] fit pairs are = absurd pairs

-- A text.

text-read : (options : ParseOptions) (bytes : List ℕ) (x : Row) (r : FrameRow) (xs : List Row) (rs : List FrameRow) →
    length bytes < 2 ^ 61 → Fit options bytes x r → Pairs (Fit options bytes) xs rs → IsPut (x ∷ xs) →
    AreLines options bytes r rs →
    AreTextRead options (x ∷ xs) (rows_events (r ∷ rs)) (unread_group options bytes (Lines r rs))
text-read options bytes x r xs rs small fit pairs put are = record {
  lines = x ∷ xs;
  under = [];
  are = sym (append-nil (x ∷ xs));
  underlines = tt;
  before =
      sym (append-nil (flat_map unread_line (x ∷ xs)) ∙ text-lines options bytes x r xs rs fit pairs are);
  after =
      sym (append-nil (unlisted_group options (x ∷ xs)) ∙ lines-same options bytes x r xs rs small fit pairs put are);
}

-- A text with its underline.

last-leaves : (options : ParseOptions) (bytes : List ℕ) (r : FrameRow) (rs : List FrameRow) →
    AreLines options bytes r rs → LeavesText (last_row r rs)
last-leaves options bytes r [] are = record {
  at = open_text (step (progress_of r.on) (trim_start are.1.rest.bytes)) (kept are.1.rest);
  is = are.1.following ∙ ap (line_following options r.on are.1.rest) are.2;
}
last-leaves options bytes r (next ∷ rs) are = last-leaves options bytes next rs are.7

go-before : (xs more : List Row) → AllGo (xs ++ more) → AllGo xs
go-before [] more h = tt
go-before (y ∷ ys) more h = (h.0, go-before ys more h.1)

put-before : (x : Row) (xs : List Row) (u : Row) → u.role ≡ Underline → IsPut (x ∷ (xs ++ u ∷ [])) → IsPut (x ∷ xs)
put-before x [] u role put = (
  record {
    head = λ h. let bad : Underline ≡ Delimiter = sym role ∙ put.0.head h in cc;
    delimiter = λ h. cc;
  },
  tt,
)
put-before x (y ∷ ys) u role put = (put.0, go-before (y ∷ ys) (u ∷ []) put.1)

pub record UnderText (under : FrameRow) (u : Row) : Type 0 where
  pub kind : under.kind ≡ LeafRow HeadingSetext
  pub role : u.role ≡ Underline

pub under-text : (options : ParseOptions) (bytes : List ℕ) (u : Row) (r under : FrameRow) (rs : List FrameRow) →
    Fit options bytes u under → AreLines options bytes r rs → IsUnder options bytes (last_row r rs) under →
    UnderText under u
under-text options bytes u r under rs fits are is = record { kind = kind; role = role }
  where
    left : LeavesText (last_row r rs)
    left = last-leaves options bytes r rs are

    on : under.on ≡ held_leaf.Text left.at
    on = is.on ∙ left.is

    proceeds : (leaf is.name).further under.on ≡ true
    proceeds = ap (λ (k : RowKind). is_further k under.on) (sym is.kind) ∙ is.further

    name : is.name ≡ HeadingSetext
    name =
        further-text left.at is.name (ap (leaf is.name).further (sym on) ∙ proceeds)
        (ap takes_head (sym is.kind) ∙ is.heads)

    kind : under.kind ≡ LeafRow HeadingSetext
    kind = is.kind ∙ ap LeafRow name

    role : u.role ≡ Underline
    role =
        text-further options bytes u under fits HeadingSetext kind
        (subst (λ (l : LeafName). (leaf l).further under.on ≡ true) name proceeds) left.at on

under-line : (options : ParseOptions) (bytes : List ℕ) (u : Row) (under : FrameRow) → Fit options bytes u under →
    under.kind ≡ LeafRow HeadingSetext → underline u ≡ row_events under
under-line options bytes u under fits kind =
    ap₂ (λ (l m : List Event). l ++ m) (ap₂ (λ (l m : List Event). l ++ m) fits.front inside)
    (tail-same options bytes u under fits (λ e.
    let bad : LeafRow HeadingSetext ≡ LeafRow CodeFurther = sym kind ∙ e in absurd (cc)))
    ∙ ap (λ (k : RowKind). under.front ++ leaf_events k under ++ tail_events (ending_of under.kind under) under)
    (sym kind)
  where
    inside : leaf_lines n.HeadingSetextUnderline (runs_line n.HeadingSetextUnderlineSequence) (u ∷ []) ≡ under.inside
    inside =
        underline-one u under.first (read-as options bytes u under fits).at
        (setext-starts options under.on u.rest (leaf-starts options bytes u under fits HeadingSetext kind)).underline
        ∙ sym (leaf-added options bytes u under fits HeadingSetext kind)

turned-read : (options : ParseOptions) (bytes : List ℕ) (x u : Row) (r under : FrameRow) (xs : List Row)
    (rs : List FrameRow) →
    length bytes < 2 ^ 61 → Fit options bytes x r → Pairs (Fit options bytes) xs rs → Fit options bytes u under →
    IsPut (x ∷ (xs ++ u ∷ [])) → AreLines options bytes r rs → IsUnder options bytes (last_row r rs) under →
    AreTextRead options (x ∷ (xs ++ u ∷ [])) (rows_events (r ∷ (rs ++ under ∷ [])))
    (unread_group options bytes (Turned r rs under))
turned-read options bytes x u r under xs rs small fit pairs fits put are is = record {
  lines = x ∷ xs;
  under = u ∷ [];
  are = refl;
  underlines = turns.role;
  before =
      rows-append (r ∷ rs) (under ∷ [])
      ∙ ap₂ (λ (l m : List Event). l ++ m) (sym (text-lines options bytes x r xs rs fit pairs are)) lines;
  after =
      ap₂ (λ (l m : List Event). l ++ m)
      (sym (lines-same options bytes x r xs rs small fit pairs (put-before x xs u turns.role put) are))
      (sym (append-nil (row_events under)) ∙ lines);
}
  where
    turns : UnderText under u
    turns = under-text options bytes u r under rs fits are is

    lines : row_events under ++ [] ≡ flat_map underline (u ∷ [])
    lines = ap (λ (l : List Event). l ++ []) (sym (under-line options bytes u under fits turns.kind))

-- A head.

pub head-read : (options : ParseOptions) (bytes : List ℕ) (x y : Row) (r next : FrameRow) (xs : List Row)
    (rs : List FrameRow) →
    Fit options bytes x r → Fit options bytes y next → IsPut (x ∷ y ∷ xs) →
    IsHead options bytes r next → AreSpan options bytes next rs → EachNoContent (next ∷ rs) →
    AreHeadRead (x ∷ y ∷ xs) (rows_events (r ∷ next ∷ rs)) (unread_group options bytes (Headed r next rs))
head-read options bytes x y r next xs rs fit fits put head are quiet = record {
  head = x;
  others = y ∷ xs;
  are = refl;
  is_head = put.0.delimiter role;
  inside = (headed_row bytes r).inside;
  no_text =
      quiet-holds (headed_row bytes r).inside (head-no_content nothing nothing-wanted (row_line bytes r) r.first);
  further = rows_events (next ∷ rs);
  none = rows-quiet (next ∷ rs) (span-quiet options bytes next rs are quiet);
  before =
      ap (λ (l : List Event). l ++ rows_events (next ∷ rs)) (sym (text-line options bytes x r fit head.text));
  after =
      ap (λ (l : List Event). l ++ rows_events (next ∷ rs))
      (sym
      (line-same options bytes x r fit head.text (headed_row bytes r).inside (headed_row bytes r).inside refl
      ∙ ap (λ (k : RowKind). r.front ++ (headed_row bytes r).inside ++ tail_events (ending_of k r) r) head.text));
}
  where
    line : IsSpanLine options bytes next
    line = span-begins options bytes next rs are

    name : line.name ≡ GfmTable
    name = heads-table line.name (line-heads options bytes next line true head.heads)

    kind : next.kind ≡ LeafRow GfmTable
    kind = line.kind ∙ ap LeafRow name

    at : OpenText
    at = open_text (step (progress_of r.on) (trim_start head.is.rest.bytes)) (kept head.is.rest)

    role : y.role ≡ Delimiter
    role =
        text-further options bytes y next fits GfmTable kind
        (subst (λ (l : LeafName). (leaf l).further next.on ≡ true) name
        (line-further options bytes next line true head.further)) at
        (head.on ∙ head.is.following ∙ ap (line_following options r.on head.is.rest) head.text)

-- Groups.

-- a group before others, where the first lines that are put together are its
group-before : (options : ParseOptions) (bytes : List ℕ) (r : FrameRow) (rs : List FrameRow)
    (More : List (List Row) → Type 0) (own read old new : List Event) (ess : List (List Row)) →
    TakesLines (Fit options bytes) (r ∷ rs) More ess → ArePut ess →
    ((x : Row) (xs : List Row) → Fit options bytes x r → Pairs (Fit options bytes) xs rs → IsPut (x ∷ xs) →
    IsGroupRead options (x ∷ xs) own read) →
    ((following : List (List Row)) → More following → AllPut following → AreGroupsRead options following old new) →
    AreGroupsRead options ess (own ++ old) (read ++ new)
group-before options bytes r rs More own read old new ess takes put group more =
    subst (λ (l : List (List Row)). AreGroupsRead options l (own ++ old) (read ++ new)) (sym t.same)
    (record {
      own = own;
      read = read;
      following = old;
      rest = new;
      before = refl;
      after = refl;
      group = group t.x t.xs t.fit t.pairs puts.0;
      more = more t.following t.more puts.1;
    })
  where
    t : Taken (Fit options bytes) r rs More ess
    t = lines-taken (Fit options bytes) r rs More ess takes

    puts : ArePut ((t.x ∷ t.xs) ∷ t.following)
    puts = subst ArePut t.same put

-- lines each of which is alone
each-before : (options : ParseOptions) (bytes : List ℕ) (rs : List FrameRow) (More : List (List Row) → Type 0)
    (old new : List Event) (ess : List (List Row)) →
    TakesEach (Fit options bytes) rs More ess → AllPut ess → EachRow IsQuiet rs →
    ((following : List (List Row)) → More following → AllPut following → AreGroupsRead options following old new) →
    AreGroupsRead options ess (rows_events rs ++ old) (rows_events rs ++ new)
each-before options bytes [] More old new ess takes put quiet more = more ess takes put
each-before options bytes (r ∷ rs) More old new ess takes put quiet more =
    subst (λ (l : List Event). AreGroupsRead options ess l (rows_events (r ∷ rs) ++ new))
    (sym (append_assoc (row_events r) (rows_events rs) old))
    (subst (λ (l : List Event). AreGroupsRead options ess (row_events r ++ (rows_events rs ++ old)) l)
    (sym (append_assoc (row_events r) (rows_events rs) new))
    (group-before options bytes r [] (TakesEach (Fit options bytes) rs More) (row_events r) (row_events r)
    (rows_events rs ++ old) (rows_events rs ++ new) ess takes (following-put ess put)
    (λ x xs fit pairs puts. inl (record { none = quiet.0; same = refl }))
    (λ following takes_more puts. each-before options bytes rs More old new following takes_more puts quiet.1 more)))

pub leaf-parts : (code : Bool) (rs : List FrameRow) → within_leaf code rs ++ following_leaf code rs ≡ rs
leaf-parts code [] = refl
leaf-parts true (r ∷ rs) = inner-outer (r ∷ rs)
leaf-parts false (r ∷ rs) = append-nil (r ∷ rs)

each-parts : (rs ss : List FrameRow) → EachRow IsQuiet (rs ++ ss) → EachRow IsQuiet rs × EachRow IsQuiet ss
each-parts [] ss h = (tt, h)
each-parts (r ∷ rs) ss h = let below = each-parts rs ss h.1 in ((h.0, below.0), below.1)

-- the lines of a leaf of several, and blank lines after it
leaf-before : (options : ParseOptions) (bytes : List ℕ) (r : FrameRow) (rs ss : List FrameRow)
    (More : List (List Row) → Type 0) (old new : List Event) (ess : List (List Row)) →
    TakesLines (Fit options bytes) (r ∷ rs) (TakesEach (Fit options bytes) ss More) ess → ArePut ess →
    EachRow IsQuiet (r ∷ (rs ++ ss)) →
    ((following : List (List Row)) → More following → AllPut following → AreGroupsRead options following old new) →
    AreGroupsRead options ess (rows_events (r ∷ (rs ++ ss)) ++ old) (rows_events (r ∷ (rs ++ ss)) ++ new)
leaf-before options bytes r rs ss More old new ess takes put quiet more =
    subst (λ (l : List Event). AreGroupsRead options ess l (rows_events (r ∷ (rs ++ ss)) ++ new)) (sym (parts old))
    (subst
    (λ (l : List Event). AreGroupsRead options ess (rows_events (r ∷ rs) ++ (rows_events ss ++ old)) l)
    (sym (parts new))
    (group-before options bytes r rs (TakesEach (Fit options bytes) ss More) (rows_events (r ∷ rs))
    (rows_events (r ∷ rs)) (rows_events ss ++ old) (rows_events ss ++ new) ess takes put
    (λ x xs fit pairs puts. inl (record { none = rows-quiet (r ∷ rs) (quiet.0, each.0); same = refl }))
    (λ following takes_more puts. each-before options bytes ss More old new following takes_more puts each.1 more)))
  where
    each : EachRow IsQuiet rs × EachRow IsQuiet ss
    each = each-parts rs ss quiet.1

    parts : (es : List Event) →
        rows_events (r ∷ (rs ++ ss)) ++ es ≡ rows_events (r ∷ rs) ++ (rows_events ss ++ es)
    parts es =
        ap (λ (l : List Event). l ++ es) (rows-append (r ∷ rs) ss)
        ∙ append_assoc (rows_events (r ∷ rs)) (rows_events ss) es

groups-read : (options : ParseOptions) (bytes : List ℕ) → length bytes < 2 ^ 61 → (gs : List Group)
    (ess : List (List Row)) → AreGroups options bytes gs → GroupsMatch (Fit options bytes) gs ess → ArePut ess →
    AreGroupsRead options ess (flow_groups gs) (unread_groups options bytes gs)
groups-read options bytes small [] ess are match put =
    subst (λ (l : List (List Row)). AreGroupsRead options l [] []) (sym match) (refl, refl)
groups-read options bytes small (Single r ∷ gs) ess are match put =
    group-before options bytes r [] (GroupsMatch (Fit options bytes) gs) (row_events r ++ []) (row_events r)
    (flow_groups gs) (unread_groups options bytes gs) ess match put
    (λ x xs fit pairs puts.
    inl
    (record {
      none =
          both-quiet (row_events r) [] (row-quiet bytes r are.0.other are.0.front are.0.quiet) refl;
      same = sym (append-nil (row_events r));
    }))
    (λ following more puts. groups-read options bytes small gs following are.1 more (following-put following puts))
groups-read options bytes small (Lines r rs ∷ gs) ess are match put =
    group-before options bytes r rs (GroupsMatch (Fit options bytes) gs) (rows_events (r ∷ rs))
    (unread_group options bytes (Lines r rs)) (flow_groups gs) (unread_groups options bytes gs) ess match put
    (λ x xs fit pairs puts. inr (inl (text-read options bytes x r xs rs small fit pairs puts are.0)))
    (λ following more puts. groups-read options bytes small gs following are.3 more (following-put following puts))
groups-read options bytes small (Turned r rs under ∷ gs) ess are match put =
    group-before options bytes r (rs ++ under ∷ []) (GroupsMatch (Fit options bytes) gs)
    (rows_events (r ∷ (rs ++ under ∷ []))) (unread_group options bytes (Turned r rs under)) (flow_groups gs)
    (unread_groups options bytes gs) ess match put
    (λ x xs fit pairs puts. inr (inl (turned x xs fit pairs puts)))
    (λ following more puts. groups-read options bytes small gs following are.4 more (following-put following puts))
  where
    turned : (x : Row) (xs : List Row) → Fit options bytes x r → Pairs (Fit options bytes) xs (rs ++ under ∷ []) →
        IsPut (x ∷ xs) →
        AreTextRead options (x ∷ xs) (rows_events (r ∷ (rs ++ under ∷ [])))
        (unread_group options bytes (Turned r rs under))
    turned x xs fit pairs puts =
        let last : WithLast (Fit options bytes) xs rs under = with-last (Fit options bytes) xs rs under pairs in
        subst
        (λ (l : List Row).
        AreTextRead options (x ∷ l) (rows_events (r ∷ (rs ++ under ∷ [])))
        (unread_group options bytes (Turned r rs under)))
        (sym last.same)
        (turned-read options bytes x last.u r under last.xs rs small fit last.pairs last.fit
        (subst (λ (l : List Row). IsPut (x ∷ l)) last.same puts) are.0 are.1)
groups-read options bytes small (Headed r next rs ∷ gs) ess are match put =
    group-before options bytes r (next ∷ rs) (GroupsMatch (Fit options bytes) gs) (rows_events (r ∷ next ∷ rs))
    (unread_group options bytes (Headed r next rs)) (flow_groups gs) (unread_groups options bytes gs) ess match put
    (λ x xs fit pairs puts. inr (inr (headed xs x fit pairs puts)))
    (λ following more puts. groups-read options bytes small gs following are.4 more (following-put following puts))
  where
    headed : (xs : List Row) (x : Row) → Fit options bytes x r → Pairs (Fit options bytes) xs (next ∷ rs) →
        IsPut (x ∷ xs) →
        AreHeadRead (x ∷ xs) (rows_events (r ∷ next ∷ rs)) (unread_group options bytes (Headed r next rs))
    headed [] x fit pairs puts = absurd pairs
    headed (y ∷ ys) x fit pairs puts = head-read options bytes x y r next ys rs fit pairs.0 puts are.0 are.1 are.5
groups-read options bytes small (LeafLines r rs ∷ gs) ess are match put =
    subst
    (λ (l : List FrameRow).
    AreGroupsRead options ess (rows_events (r ∷ l) ++ flow_groups gs)
    (rows_events (r ∷ l) ++ unread_groups options bytes gs))
    (leaf-parts (is_code r.following) rs)
    (leaf-before options bytes r (within_leaf (is_code r.following) rs) (following_leaf (is_code r.following) rs)
    (GroupsMatch (Fit options bytes) gs) (flow_groups gs) (unread_groups options bytes gs) ess match put
    (subst (λ (l : List FrameRow). EachRow IsQuiet (r ∷ l)) (sym (leaf-parts (is_code r.following) rs))
    (span-quiet options bytes r rs are.0 are.3))
    (λ following more puts. groups-read options bytes small gs following are.2 more (following-put following puts)))

-- All lines of a text from where one of them begins,

lines-read : (options : ParseOptions) (bytes : List ℕ) → IsWithoutMdx options → length bytes < 2 ^ 61 →
    (number index column : ℕ) (fulls : List (List ℕ)) → BeginsLine bytes number index column fulls →
    AreGroupsRead options (grouped (exact_rows options no_path (lines_from number index column fulls)))
    (rows_events (text_rows options bytes (begin number index column)))
    (unread_groups options bytes (groups (text_rows options bytes (begin number index column))))
lines-read options bytes built small number index column fulls is =
    let rows : List FrameRow = text_rows options bytes (begin number index column) in
    let lines : List (List Row) = grouped (exact_rows options no_path (lines_from number index column fulls)) in
    subst (λ (l : List Event). AreGroupsRead options lines l (unread_groups options bytes (groups rows)))
    (sym (groups-events rows))
    (groups-read options bytes small (groups rows) lines
    (groups-are options bytes [] held_leaf.None (begin number index column) (split_lines (drop index bytes)) rows
    (refl, refl) (are-rows options bytes built small number index column fulls is)
    (lines-quiet options bytes built small number index column fulls is))
    (lines-match options bytes built small number index column fulls is)
    (rows-put options no_path (lines_from number index column fulls)))

-- where a part may begin.
from-read : (options : ParseOptions) (bytes : List ℕ) (p : Point) → IsWithoutMdx options → length bytes < 2 ^ 61 →
    BeginsPart bytes p →
    AreGroupsRead options (groups_from options bytes p) (rows_events (text_rows options bytes p))
    (unread_groups options bytes (groups (text_rows options bytes p)))
from-read options bytes p built small begins =
    subst
    (λ (q : Point).
    AreGroupsRead options (groups_from options bytes p) (rows_events (text_rows options bytes q))
    (unread_groups options bytes (groups (text_rows options bytes q)))) (sym (part-point bytes p begins))
    (lines-read options bytes built small p.line p.index (p.column - 1) (full_lines_of (drop p.index bytes))
    (part-line bytes p begins))

-- So they are read.
pub texts-read : (options : ParseOptions) (bytes : List ℕ) (p : Point) → IsWithoutMdx options →
    length bytes < 2 ^ 61 → BeginsPart bytes p → (content : List Event) →
    Substituted wants_content (content_readings bytes options) [] 0
    (joined (heads_read options bytes (rows_events (text_rows options bytes p)))) content →
    AreTextsRead options bytes p (rows_events (text_rows options bytes p)) content
unfolding AreTextsRead
texts-read options bytes p built small begins content read =
    subst (AreGroupsRead options (groups_from options bytes p) (rows_events (text_rows options bytes p)))
    (sym (content-are options bytes p built small (part-may bytes p begins) content read))
    (from-read options bytes p built small begins)

-- and by the step that reads content
pub texts_of : (p : Point) (old : World) (found : Found) (new : World) → IsWithoutMdx old.setting.options →
    length old.setting.bytes < 2 ^ 61 → BeginsPart old.setting.bytes p → IsFlowRead p old →
    ReadIf (holds_content old.events) old found new →
    AreTextsRead old.setting.options old.setting.bytes p old.events new.events
texts_of p old found new built small begins lines h =
    subst (λ (l : List Event). AreTextsRead options bytes p l new.events) (sym lines)
    (texts-read options bytes p built small begins new.events
    (content-step bytes options (text_rows options bytes p) old found new (text-framed options bytes p)
    (text-quiet options bytes p) lines refl refl (holds_content old.events) refl h).read)
  where
    options : ParseOptions
    options = old.setting.options

    bytes : List ℕ
    bytes = old.setting.bytes

-- It has read the lines of a text from a point on where it has read them from there.
pub flow-read : (options : ParseOptions) (bytes : List ℕ) (p : Point) (w : World) → AreFlushed bytes options p w →
    IsFlowRead p w
flow-read options bytes p w are =
    are.events
    ∙ ap (λ (o : ParseOptions). rows_events (text_rows o bytes p)) (sym are.options_are)
    ∙ ap (λ (l : List ℕ). rows_events (text_rows w.setting.options l p)) (sym are.bytes_are)

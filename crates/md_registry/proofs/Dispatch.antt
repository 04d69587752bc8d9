-- By the first byte of the rest of a line: the leaves outside its row refuse, so those of the row give what all do,
-- tried in order; and no leaf of the line definition starts on a rest outside of the row.
use Rattle.std.proofs.Common.{◌≡◌, ◌∙◌, ◌<◌, ◌+◌, ◌*◌, ℕ, Bool, true, false, cond, ◌||◌, not, List, [], ◌∷◌, length, ap}
use Rattle.std.proofs.Common.{arith, nat_eq, refl, subst, sym, zero, suc, ◌&&◌, Option, None, take, ap₂, append-nil}
use Rattle.std.proofs.Common.{◌++◌}
use Rattle.std.specs.Prelude.{◌==◌, Some, nat_le}
use Rattle.std.proofs.lemmas.Bool.{eqb-true, or_parts, and_right, and_left, and_parts, false_from_ne_true}
use Rattle.md_engine.specs.declared.configuration.ParseOptions.{ParseOptions}
use Rattle.md_engine.specs.declared.state.Name.TheVariants as n
use Rattle.md_engine.specs.declared.state.flow.State.TheVariants as flow
use Rattle.md_engine.specs.declared.tokenizer.Scratch.{Scratch}
use Rattle.md_engine.specs.declared.tokenizer.held_leaf.HeldLeaf.{HeldLeaf}
use Rattle.md_engine.specs.declared.tokenizer.held_leaf.HeldLeaf.TheVariants as held_leaf
use Rattle.md_engine.specs.Meaning.{Cell, Here, Outcome}
use Rattle.md_engine.specs.World.{Flags}
use Rattle.md_meaning.specs.Ascii.{asterisk, backtick, dollar, equals_sign, hash, hyphen, less_than, tilde, underscore}
use Rattle.md_meaning.specs.Ascii.{space, tab}
use Rattle.md_events.specs.Ahead.{begins_white}
use Rattle.md_events.specs.Look.{seen_after}
use Rattle.md_events.specs.Spaces.{IsRest}
use Rattle.proof_frame.specs.LeafName.{CodeIndented, Fence, GfmTable, HeadingAtx, HeadingSetext, HtmlFlow, LeafName}
use Rattle.proof_frame.specs.LeafName.{ThematicBreak, first_of}
use Rattle.proof_frame.specs.Rule.{Rule, tried}
use Rattle.md_registry.specs.Flow.{flow_rank}
use Rattle.md_registry.specs.FlowRule.{following_leaf, leaves_of}
use Rattle.md_registry.specs.Registry.{IsOutsideEnd, IsOutsideRow, begun, ended, following, in_row, is_common, leaf}
use Rattle.md_registry.specs.Registry.{row, trials}
use Rattle.md_registry.proofs.Registry.{NextIs, AreAsked, laws, trials-asked}
use Rattle.md_registry.proofs.Fence.Rests.{fence-rests}
use Rattle.md_registry.proofs.HeadingAtx.Rests.{heading-rests}
use Rattle.md_registry.proofs.LeafRests.{Rests, tried-agree, taken-or-not}
use Rattle.proof_leaf_laws.proofs.HeadingSetext.Trial as setext
use Rattle.proof_leaf_laws.proofs.ThematicBreak.Trial as break
use Rattle.proof_literal_laws.proofs.HtmlFlow.Trial as html
use Rattle.proof_leaf_laws.proofs.GfmTable.Trial as table
use Rattle.std.proofs.Math.Bool.{and-false, or-true}
use Rattle.md_meaning.specs.Html.{html_kind}
use Rattle.md_meaning.specs.Leaves.{LeafResult, ParagraphContext, break_at, code_at, fence_at, heading_at, html_at}
use Rattle.md_meaning.specs.Leaves.{is_free, is_rule_marker, is_run, underline_depth, is_rule, starts, is_fence_marker}
use Rattle.md_meaning.specs.Rest.{is_white, Rest, has_small_indent, indent, is_blank, trim_start}
use Rattle.std.specs.Option.{is_some, option_or}
use Rattle.md_engine.specs.Progress.{is_whole}
use Rattle.md_engine.specs.declared.tokenizer.held_leaf.OpenText.{OpenText}
use Rattle.std.proofs.lemmas.Bool.Decides.{nat_tests}
use Rattle.md_leaves.specs.HeadingRule.{is_heading}
use Rattle.md_meaning.specs.State.{NoLeaf}
use Rattle.md_meaning.specs.Texts.{first_byte}
use Rattle.md_meaning.specs.Tree.{Heading}
use Rattle.md_leaves.specs.HeadingSetext.{may_turn, turns_nothing, is_marker, is_text}
use Rattle.md_leaves.specs.HeadingSetextRule.{is_underline}
use Rattle.md_outline.specs.HeadingDepths.{is_shallow}
use Rattle.md_outline.proofs.TextCuts.{trim-blank}
use Rattle.proof_frame.specs.Context.{context_of}
use Rattle.proof_literal_laws.specs.Leaf.CodeIndented.{code_leaf}
use Rattle.proof_literal_laws.specs.Leaf.Fence.{fence_leaf}
use Rattle.proof_leaf_laws.specs.Leaf.GfmTable.{table_leaf}
use Rattle.proof_leaf_laws.specs.Leaf.HeadingAtx.{heading_leaf}
use Rattle.proof_leaf_laws.specs.Leaf.HeadingSetext.{setext_leaf}
use Rattle.proof_leaf_laws.specs.Leaf.ThematicBreak.{break_leaf, is_ruled}
use Rattle.proof_literal_laws.proofs.CodeIndented.Cells.{code-rest}
use Rattle.proof_literal_laws.proofs.HtmlFlow.Found.{html-indented, html-lazy, html-found, html-first}
use Rattle.proof_literal_laws.specs.Leaf.HtmlFlow.{html_leaf}
use Rattle.md_registry.proofs.HeadingSetext.Found.{is_underlined, some-underlined, starts-by}
use Rattle.proof_leaf_laws.proofs.HeadingSetext.Kinds.{setext-starts, Underlines, underline-first}
use Rattle.md_registry.proofs.OpenSpan.{TurnsText}
use Rattle.md_registry.proofs.UnderNames.{further-text}
use Rattle.md_literal.specs.Code.{may_open}
use Rattle.proof_literal_laws.proofs.CodeIndented.Found.{code-found}
use Rattle.proof_literal_laws.proofs.Fence.Found.{fence-found}
use Rattle.proof_leaf_laws.proofs.HeadingAtx.Found.{heading-found}
use Rattle.proof_leaf_laws.proofs.ThematicBreak.Found.{break-found}
use Rattle.proof_literal_laws.proofs.Fence.Opened.{fence-starts}
use Rattle.proof_leaf_laws.proofs.HeadingAtx.Cells.{heading-other}

-- Leaves whose trial rests.

setext-rests : Rests HeadingSetext
setext-rests options cells h is =
    taken-or-not ((leaf HeadingSetext).takes options h.flags.leaf cells) _ _ h is tt
    (setext.setext-took options cells h is) (setext.setext-refused options cells h is)

break-rests : Rests ThematicBreak
break-rests options cells h is =
    taken-or-not ((leaf ThematicBreak).takes options h.flags.leaf cells) _ _ h is tt
    (break.break-took options cells h is) (break.break-refused options cells h is)

html-rests : Rests HtmlFlow
html-rests options cells h is =
    taken-or-not ((leaf HtmlFlow).takes options h.flags.leaf cells) _ _ h is tt (html.html-took options cells h is)
    (html.html-refused options cells h is)

table-rests : Rests GfmTable
table-rests options cells h is =
    taken-or-not ((leaf GfmTable).takes options h.flags.leaf cells) _ _ h is tt (table.table-took options cells h is)
    (table.table-refused options cells h is)

-- Of the first leaves, tried in order, those of the second are left for a byte: each other may not begin with it.
data LeavesRow (b : ℕ) : List LeafName → List LeafName → Type 0 where
  Done : LeavesRow b [] []
  Keeps : (l : LeafName) (ls ks : List LeafName) → Rests l → LeavesRow b ls ks → LeavesRow b (l ∷ ls) (l ∷ ks)
  Skips : (l : LeafName) (ls ks : List LeafName) →
      ((on : HeldLeaf) → (leaf l).may_begin on false b ≡ false) → LeavesRow b ls ks → LeavesRow b (l ∷ ls) ks

-- what is left before the first is what is left before the second
row_left : (options : ParseOptions) (next : Rule) (b : ℕ) (ls ks : List LeafName) → LeavesRow b ls ks → AreAsked ls →
    (cells : List Cell) (h : Here) → seen_after cells ≡ Some b → begins_white cells ≡ false → IsRest h.scratch →
    leaves_of options next ls cells h ≡ leaves_of options next ks cells h
row_left options next b _ _ Done asked cells h seen dark is = refl
row_left options next b _ _ (Keeps l ls ks rests more) asked cells h seen dark is =
    tried-agree ((leaf l).trial options cells h) (following_leaf (leaf l).ends next)
    (λ s g. leaves_of options next ls cells (record h { scratch = s; flags = g }))
    (λ s g. leaves_of options next ks cells (record h { scratch = s; flags = g })) (rests options cells h is)
    (λ s g at. row_left options next b ls ks more asked.1 cells (record h { scratch = s; flags = g }) seen dark at)
row_left options next b _ _ (Skips l ls ks without more) asked cells h seen dark is =
    let on : HeldLeaf = h.flags.leaf in
    let none : (leaf l).may_begin on (begins_white cells) b ≡ false =
    ap (λ (white : Bool). (leaf l).may_begin on white b) dark ∙ without on in
    ap
    (λ (o : Outcome).
    tried o (following_leaf (leaf l).ends next)
    (λ (s : Scratch) (g : Flags). leaves_of options next ls cells (record h { scratch = s; flags = g })))
    ((laws l).refused options cells h (asked.0 on) is ((laws l).looked options on cells b seen none))
    ∙ row_left options next b ls ks more asked.1 cells h seen dark is

-- those after the first of a row are tried one after another, and rank below the state before it
abbrev pub AreNext : List LeafName → Type 0
AreNext [] = Unit {0}
AreNext (l ∷ ls) = NextIs ls × (5 + 2 * length ls < (flow_rank (n.Flow flow.Start)).number)

-- a leaf is kept or skipped, by whether it may begin with this byte
abbrev kept : LeafName → ℕ → List LeafName → List LeafName
kept l b ls = cond ((leaf l).may_begin held_leaf.None false b) (l ∷ ls) ls

place : (l : LeafName) (b : ℕ) (ls ks : List LeafName) → Rests l →
    ((on : HeldLeaf) → (leaf l).may_begin on false b ≡ (leaf l).may_begin held_leaf.None false b) → LeavesRow b ls ks →
    LeavesRow b (l ∷ ls) (kept l b ks)
place l b ls ks rests same more = go ((leaf l).may_begin held_leaf.None false b) refl
  where
    go : (x : Bool) → (leaf l).may_begin held_leaf.None false b ≡ x → LeavesRow b (l ∷ ls) (cond x (l ∷ ks) ks)
    go true e = Keeps l ls ks rests more
    go false e = Skips l ls ks (λ on. same on ∙ e) more

places : (b : ℕ) →
    LeavesRow b trials
    (kept Fence b
    (kept HtmlFlow b (kept HeadingAtx b (kept HeadingSetext b (kept ThematicBreak b (GfmTable ∷ []))))))
places b =
    Skips CodeIndented _ _ (λ on. refl)
    (place Fence b _ _ fence-rests (λ on. refl)
    (place HtmlFlow b _ _ html-rests (λ on. refl)
    (place HeadingAtx b _ _ heading-rests (λ on. refl)
    (place HeadingSetext b _ _ setext-rests (λ on. refl)
    (place ThematicBreak b _ _ break-rests (λ on. refl) (Keeps GfmTable _ _ table-rests Done))))))

record IsRow (b : ℕ) (ks : List LeafName) : Type 1 where
  left : LeavesRow b trials ks
  next : AreNext ks

-- it is this byte, or another
either : (P : ℕ → Type 1) (b c : ℕ) → P c → (nat_eq b c ≡ false → P b) → P b
either P b c at other = go (nat_eq b c) refl
  where
    go : (x : Bool) → nat_eq b c ≡ x → P b
    go true e = subst P (sym (eqb-true b c e)) at
    go false e = other e

-- each row, by its byte
row-is : (b : ℕ) → IsRow b (row b)
unfolding row
row-is b =
    either P b hash (record { left = places hash; next = ((refl, refl), omega arith) }) (λ h.
    either P b dollar (record { left = places dollar; next = ((refl, refl), omega arith) }) (λ d.
    either P b backtick (record { left = places backtick; next = ((refl, refl), omega arith) }) (λ t.
    either P b tilde (record { left = places tilde; next = ((refl, refl), omega arith) }) (λ l.
    either P b asterisk (record { left = places asterisk; next = ((refl, refl), omega arith) }) (λ a.
    either P b underscore (record { left = places underscore; next = ((refl, refl), omega arith) }) (λ u.
    either P b hyphen (record { left = places hyphen; next = ((refl, refl), omega arith) }) (λ m.
    either P b equals_sign (record { left = places equals_sign; next = ((refl, refl), omega arith) }) (λ q.
    either P b less_than (record { left = places less_than; next = ((refl, refl), omega arith) }) (λ s.
    rw (h, d, t, l, a, u, m, q, s)
    (record {
      left =
          Skips CodeIndented _ _ (λ on. refl)
          (Skips Fence _ _ (λ on. rw (d, t, l) refl)
          (Skips HtmlFlow _ _ (λ on. s)
          (Skips HeadingAtx _ _ (λ on. h)
          (Skips HeadingSetext _ _ (λ on. rw (m, q) refl)
          (Skips ThematicBreak _ _ (λ on. rw (a, u, m) refl) (Keeps GfmTable _ _ table-rests Done))))));
      next = (tt, omega arith);
    }))))))))))
  where
    P : ℕ → Type 1
    P c = IsRow c (row c)

pub row-next : (b : ℕ) → AreNext (row b)
row-next b = (row-is b).next

-- what is left before all leaves is what is left before those of the row
pub row-left : (options : ParseOptions) (next : Rule) (b : ℕ) (cells : List Cell) (h : Here) →
    seen_after cells ≡ Some b → begins_white cells ≡ false → IsRest h.scratch →
    leaves_of options next trials cells h ≡ leaves_of options next (row b) cells h
row-left options next b cells h seen dark is =
    row_left options next b trials (row b) (row-is b).left trials-asked cells h seen dark is

-- a byte that begins no other row
pub common-row : (b : ℕ) → is_common b ≡ true → row b ≡ GfmTable ∷ []
unfolding row
common-row b e =
    go (b == hash) (b == dollar) (b == backtick) (b == tilde) (b == asterisk) (b == underscore) (b == hyphen)
    (b == equals_sign) (b == less_than) e
  where
    go : (h d t l a u m q s : Bool) → not (h || d || t || l || a || u || m || q || s) ≡ true →
        cond h (HeadingAtx ∷ GfmTable ∷ [])
        (cond (d || t || l) (Fence ∷ GfmTable ∷ [])
        (cond (a || u) (ThematicBreak ∷ GfmTable ∷ [])
        (cond m (HeadingSetext ∷ ThematicBreak ∷ GfmTable ∷ [])
        (cond q (HeadingSetext ∷ GfmTable ∷ []) (cond s (HtmlFlow ∷ GfmTable ∷ []) (GfmTable ∷ [])))))) ≡
        GfmTable ∷ []
    go false false false false false false false false false e = refl
    go _ _ _ _ _ _ _ _ _ e = cc

-- The leaves of the line definition outside of a row.

-- A byte whose row lacks a leaf is none that begins it.
no-byte : (l : LeafName) (b m : ℕ) → in_row l m ≡ true → in_row l b ≡ false → (b == m) ≡ false
no-byte l b m has out = go (b == m) refl
  where
    go : (x : Bool) → (b == m) ≡ x → x ≡ false
    go false e = refl
    go true e =
        let same : b ≡ m = eqb-true b m e in
        let both : true ≡ false = sym has ∙ ap (in_row l) (sym same) ∙ out in cc

in-row : (in_row HeadingAtx hash ≡ true) × (in_row HtmlFlow less_than ≡ true)
unfolding row
in-row = (refl, refl)

fence-row : (in_row Fence dollar ≡ true) × (in_row Fence backtick ≡ true) × (in_row Fence tilde ≡ true)
unfolding row
fence-row = (refl, refl, refl)

break-row : (in_row ThematicBreak asterisk ≡ true) × (in_row ThematicBreak hyphen ≡ true)
    × (in_row ThematicBreak underscore ≡ true)
unfolding row
break-row = (refl, refl, refl)

underline-row : (in_row HeadingSetext equals_sign ≡ true) × (in_row HeadingSetext hyphen ≡ true)
unfolding row
underline-row = (refl, refl)

off : {A : Type 0} (x : Bool) (o : Option A) → cond (x && false) o None ≡ None
off x o = ap (λ (t : Bool). cond t o None) (and-false x)

neither : {A : Type 0} (x : Bool) → cond {A = Option A} x None None ≡ None
neither true = refl
neither false = refl

code-outside : (options : ParseOptions) (column b : ℕ) (bytes : List ℕ) → is_white b ≡ false →
    (against : ParagraphContext) → code_at options against (begun column b bytes) ≡ None
unfolding code_at
code-outside options column b bytes dark against =
    let parts = or_parts (b == space) (b == tab) dark in
    rw (parts.1, parts.0) (off (options.constructs.code_indented && is_free against) _)

-- no `#` is here
no-depth : (options : ParseOptions) (y : Bool) (o : Option LeafResult) →
    cond (options.constructs.heading_atx && (not options.constructs.code_indented || true) && false && true && y) o
    None ≡
    None
no-depth options y o = go options.constructs.heading_atx
  where
    go : (x : Bool) → cond (x && (not options.constructs.code_indented || true) && false && true && y) o None ≡ None
    go true = rw (or-true (not options.constructs.code_indented)) refl
    go false = refl

heading-outside : (options : ParseOptions) (column b : ℕ) (bytes : List ℕ) → is_white b ≡ false → (b == hash) ≡ false →
    heading_at options (begun column b bytes) ≡ None
unfolding heading_at
heading-outside options column b bytes dark other =
    let parts = or_parts (b == space) (b == tab) dark in
    rw (parts.1, parts.0, other) (no-depth options _ _)

off-third : (x y z : Bool) (o : Option LeafResult) → cond (x && false && y && z) o None ≡ None
off-third true y z o = refl
off-third false y z o = refl

fence-outside : (options : ParseOptions) (column b : ℕ) (bytes : List ℕ) → is_white b ≡ false →
    (b == dollar) ≡ false → (b == backtick) ≡ false → (b == tilde) ≡ false →
    fence_at options (begun column b bytes) ≡ None
unfolding fence_at
fence-outside options column b bytes dark money tick wave =
    let parts = or_parts (b == space) (b == tab) dark in
    rw (parts.1, parts.0, money, tick, wave, or-true (not options.constructs.code_indented))
    (off-third options.constructs.code_fenced _ _ _)

break-outside : (options : ParseOptions) (column b : ℕ) (bytes : List ℕ) → is_white b ≡ false →
    is_rule_marker b ≡ false → break_at options (begun column b bytes) ≡ None
unfolding break_at
break-outside options column b bytes dark other =
    let parts = or_parts (b == space) (b == tab) dark in
    rw (parts.1, parts.0, other) (off _ _)

html-outside : (options : ParseOptions) (column b : ℕ) (bytes : List ℕ) → is_white b ≡ false →
    (b == less_than) ≡ false → (against : ParagraphContext) → html_at options against (begun column b bytes) ≡ None
unfolding html_at html_kind
html-outside options column b bytes dark other against =
    let parts = or_parts (b == space) (b == tab) dark in
    rw (parts.1, parts.0, other) (neither _)

-- a run of one byte begins with it
run-outside : (m b n : ℕ) (bytes : List ℕ) → (b == m) ≡ false → is_run m (take n (b ∷ bytes)) ≡ false
run-outside m b zero bytes other = refl
run-outside m b (suc n) bytes other = rw (other) refl

underline-outside : (options : ParseOptions) (column b : ℕ) (bytes : List ℕ) → is_white b ≡ false →
    (b == equals_sign) ≡ false → (b == hyphen) ≡ false → underline_depth options (begun column b bytes) ≡ None
unfolding underline_depth
underline-outside options column b bytes dark equals dash =
    let parts = or_parts (b == space) (b == tab) dark in
    rw (parts.1, parts.0) (go _ _ _ (run-outside equals_sign b _ bytes equals) (run-outside hyphen b _ bytes dash))
  where
    go : (x p q : Bool) → p ≡ false → q ≡ false →
        cond {A = Option ℕ} x (cond p (Some 1) (cond q (Some 2) None)) None ≡ None
    go true p q h k = rw (h, k) refl
    go false p q h k = refl

marker-outside : (b : ℕ) → (b == asterisk) ≡ false → (b == hyphen) ≡ false → (b == underscore) ≡ false →
    is_rule_marker b ≡ false
marker-outside b star dash low = rw (star, dash, low) refl

pub outside-row : (options : ParseOptions) (column b : ℕ) (bytes : List ℕ) → is_white b ≡ false →
    IsOutsideRow options column b bytes
outside-row options column b bytes dark = record {
  code = code-outside options column b bytes dark;
  fence = λ out.
      fence-outside options column b bytes dark (no-byte Fence b dollar fence-row.0 out)
      (no-byte Fence b backtick fence-row.1 out) (no-byte Fence b tilde fence-row.2 out);
  html = λ out. html-outside options column b bytes dark (no-byte HtmlFlow b less_than in-row.1 out);
  heading = λ out. heading-outside options column b bytes dark (no-byte HeadingAtx b hash in-row.0 out);
  break = λ out.
      break-outside options column b bytes dark
      (marker-outside b (no-byte ThematicBreak b asterisk break-row.0 out)
      (no-byte ThematicBreak b hyphen break-row.1 out) (no-byte ThematicBreak b underscore break-row.2 out));
  underline = λ out.
      underline-outside options column b bytes dark (no-byte HeadingSetext b equals_sign underline-row.0 out)
      (no-byte HeadingSetext b hyphen underline-row.1 out);
}

-- Where nothing is left.

code-ended : (options : ParseOptions) (column : ℕ) (against : ParagraphContext) →
    code_at options against (ended column) ≡ None
unfolding code_at
code-ended options column against = off (options.constructs.code_indented && is_free against) _

fence-ended : (options : ParseOptions) (column : ℕ) → fence_at options (ended column) ≡ None
unfolding fence_at
fence-ended options column = neither _

html-ended : (options : ParseOptions) (column : ℕ) (against : ParagraphContext) →
    html_at options against (ended column) ≡ None
unfolding html_at html_kind
html-ended options column against = neither _

heading-ended : (options : ParseOptions) (column : ℕ) → heading_at options (ended column) ≡ None
unfolding heading_at
heading-ended options column = no-depth options _ _

break-ended : (options : ParseOptions) (column : ℕ) → break_at options (ended column) ≡ None
unfolding break_at
break-ended options column = off _ _

underline-ended : (options : ParseOptions) (column : ℕ) → underline_depth options (ended column) ≡ None
unfolding underline_depth
underline-ended options column = neither _

pub outside-end : (options : ParseOptions) (column : ℕ) → IsOutsideEnd options column
outside-end options column = record {
  code = code-ended options column;
  fence = fence-ended options column;
  html = html-ended options column;
  heading = heading-ended options column;
  break = break-ended options column;
  underline = underline-ended options column;
}

-- Which leaf takes the rest of a line: where no text is open, where text is open, and where the line is lazy for
-- text.

-- the leaf that takes the rest of a line, if one does
abbrev pub leaf_at : ParseOptions → HeldLeaf → Rest → Option LeafName
leaf_at options on r = first_of (λ l. (leaf l).starts options on r) trials

-- and what it makes of the line
abbrev pub result_of : ParseOptions → Rest → Option LeafName → Option LeafResult
result_of options r None = None
result_of options r (Some l) = Some ((leaf l).becomes options NoLeaf r)

-- The leaf that is open says what a line may interrupt: no text, text, or text that it is lazy for.
abbrev pub IsAgainst : ParagraphContext → HeldLeaf → Type 0
IsAgainst against on = against ≡ context_of on

-- Where an underline starts.

-- its marker is one of no fence, and begins neither HTML nor a heading
marker-fence : (options : ParseOptions) (m : ℕ) → is_marker m ≡ true → is_fence_marker options m ≡ true → ⊥
marker-fence options m mark fence = go (m == 36) refl fence
  where
    other : (m : ℕ) → is_marker m ≡ true → ((m == 96) || (m == 126)) ≡ false
    other m mark = grind (arith, nat_tests)

    dollar : (m : ℕ) → is_marker m ≡ true → (m == 36) ≡ false
    dollar m mark = grind (arith, nat_tests)

    go : (x : Bool) → (m == 36) ≡ x →
        cond x options.constructs.math_flow (options.constructs.code_fenced && ((m == 96) || (m == 126))) ≡ true → ⊥
    go true e h = let bad = sym e ∙ dollar m mark in cc
    go false e h =
        let both = and_parts options.constructs.code_fenced ((m == 96) || (m == 126)) h in
        let bad = sym both.1 ∙ other m mark in cc

-- nor of HTML
marker-html : (m : ℕ) → is_marker m ≡ true → m ≡ 60 → ⊥
marker-html m mark e = grind (arith, nat_tests)

-- nor of a heading
marker-heading : (bs : List ℕ) → is_marker (first_byte bs) ≡ true → is_heading bs ≡ false
marker-heading [] mark = refl
marker-heading (b ∷ bs) mark = heading-other b bs (other b mark)
  where
    other : (m : ℕ) → is_marker m ≡ true → (m == 35) ≡ false
    other m mark = grind (arith, nat_tests)

-- code begins in no open text
text-code : (options : ParseOptions) (on : HeldLeaf) (r : Rest) → is_text on ≡ true →
    code_leaf.starts options on r ≡ false
text-code options (held_leaf.Text at) r text =
    let on : Bool = options.constructs.code_indented in
    and_left (on && false && nat_le 4 (indent r)) (not (is_blank r.bytes))
    (and_left (on && false) (nat_le 4 (indent r)) (and_right on false refl))
text-code options _ r text = cc

-- Where an underline starts no leaf does that is tried before it.
record StartsNone (options : ParseOptions) (on : HeldLeaf) (r : Rest) : Type 0 where
  pub code : code_leaf.starts options on r ≡ false
  pub fence : fence_leaf.starts options on r ≡ false
  pub html : html_leaf.starts options on r ≡ false
  pub heading : heading_leaf.starts options on r ≡ false

-- so it is after text
underlined-first : (options : ParseOptions) (on : HeldLeaf) (r : Rest) → is_text on ≡ true →
    is_underlined options r ≡ true → StartsNone options on r
underlined-first options on r text is = record {
  code = text-code options on r text;
  fence =
      false_from_ne_true (fence_leaf.starts options on r)
      (λ e. marker-fence options (first_byte (trim_start r.bytes)) mark (fence-starts options r e).fence.marker);
  html =
      false_from_ne_true (html_leaf.starts options on r)
      (λ e. marker-html (first_byte (trim_start r.bytes)) mark (html-first options on r e));
  heading = heading;
}
  where
    mark : is_marker (first_byte (trim_start r.bytes)) ≡ true
    mark =
        underline-first (trim_start r.bytes)
        (and_parts (options.constructs.heading_setext && has_small_indent options r)
        (is_underline (trim_start r.bytes)) is).1

    heading : heading_leaf.starts options on r ≡ false
    heading =
        and_right (options.constructs.heading_atx && has_small_indent options r) (is_heading (trim_start r.bytes))
        (marker-heading (trim_start r.bytes) mark)

setext-first : (options : ParseOptions) (on : HeldLeaf) (r : Rest) → setext_leaf.starts options on r ≡ true →
    StartsNone options on r
setext-first options on r starts =
    let is : Underlines options on r = setext-starts options on r starts in
    underlined-first options on r is.text (sym (starts-by options on r true is.turns) ∙ starts)

-- The line of a setext underline is not blank,
setext-filled : (options : ParseOptions) (on : HeldLeaf) (r : Rest) → setext_leaf.starts options on r ≡ true →
    is_blank r.bytes ≡ false
setext-filled options on r starts = go (is_blank r.bytes) refl
  where
    go : (x : Bool) → is_blank r.bytes ≡ x → x ≡ false
    go true blank =
        let none : trim_start r.bytes ≡ [] = ap trim_start (sym (append-nil r.bytes)) ∙ trim-blank r.bytes [] blank in
        let bad : true ≡ false = sym (setext-starts options on r starts).underline ∙ ap is_underline none in cc
    go false blank = refl

-- and it turns the text before it.
setext-turns : TurnsText HeadingSetext
setext-turns = record {
  ends = refl;
  same = refl;
  becomes = λ options lines r. refl;
  filled = setext-filled;
  shallow = λ lines r. shallow (first_byte (trim_start r.bytes) == equals_sign) lines;
}
  where
    shallow : (x : Bool) (lines : List (List ℕ)) → is_shallow (Heading (cond x 1 2) lines) ≡ true
    shallow true lines = refl
    shallow false lines = refl

pub text-turns : (at : OpenText) (l : LeafName) → (leaf l).further (held_leaf.Text at) ≡ true → (leaf l).heads ≡ false →
    TurnsText l
text-turns at l e h = subst TurnsText (sym (further-text at l e h)) setext-turns

-- where an underline starts, no leaf that is tried before it does
pub setext-taken : (options : ParseOptions) (on : HeldLeaf) (r : Rest) → setext_leaf.starts options on r ≡ true →
    leaf_at options on r ≡ Some HeadingSetext
setext-taken options on r starts =
    ap₂
    (λ (c x : Bool).
    to c x (html_leaf.starts options on r) (heading_leaf.starts options on r) (setext_leaf.starts options on r))
    none.code none.fence
    ∙ ap₂ (λ (h y : Bool). to false false h y (setext_leaf.starts options on r)) none.html none.heading
    ∙ ap (to false false false false) starts
  where
    none : StartsNone options on r
    none = setext-first options on r starts

    to : Bool → Bool → Bool → Bool → Bool → Option LeafName
    to c x h y s =
        cond c (Some CodeIndented)
        (cond x (Some Fence)
        (cond h (Some HtmlFlow)
        (cond y (Some HeadingAtx)
        (cond s (Some HeadingSetext) (first_of (λ l. (leaf l).starts options on r) (following HeadingSetext))))))

-- where a line has the bytes of an underline, but no text that it may turn, no leaf starts
pub lost-none : (options : ParseOptions) (at : OpenText) (r : Rest) (depth : ℕ) →
    may_turn options (held_leaf.Text at) ≡ false → underline_depth options r ≡ Some depth →
    table_leaf.starts options (held_leaf.Text at) r ≡ false → leaf_at options (held_leaf.Text at) r ≡ None
lost-none options at r depth may some no_table =
    ap₂
    (λ (c x : Bool).
    to c x (html_leaf.starts options on r) (heading_leaf.starts options on r) (setext_leaf.starts options on r)
    (break_leaf.starts options on r) (table_leaf.starts options on r)) none.code none.fence
    ∙ ap₂
    (λ (h y : Bool).
    to false false h y (setext_leaf.starts options on r) (break_leaf.starts options on r)
    (table_leaf.starts options on r)) none.html none.heading
    ∙ ap₂ (λ (s z : Bool). to false false false false s z (table_leaf.starts options on r))
    (starts-by options on r false may) lost
    ∙ ap (to false false false false false false) no_table
  where
    on : HeldLeaf
    on = held_leaf.Text at

    is : is_underlined options r ≡ true
    is = some-underlined options r depth some

    none : StartsNone options on r
    none = underlined-first options on r refl is

    lost : break_leaf.starts options on r ≡ false
    lost =
        and_right (is_ruled options r) (not (turns_nothing options on && is_underline (trim_start r.bytes)))
        (go options.constructs.heading_setext (has_small_indent options r) (is_underline (trim_start r.bytes))
        (options.constructs.definition && is_whole at.progress) is may)
      where
        go : (x s u w : Bool) → (x && s && u) ≡ true → not w ≡ false → not ((x && w) && u) ≡ false
        go true true true true e k = refl
        go _ _ _ _ e k = cc

    to : Bool → Bool → Bool → Bool → Bool → Bool → Bool → Option LeafName
    to c x h y s z t =
        cond c (Some CodeIndented)
        (cond x (Some Fence)
        (cond h (Some HtmlFlow)
        (cond y (Some HeadingAtx)
        (cond s (Some HeadingSetext) (cond z (Some ThematicBreak) (cond t (Some GfmTable) None))))))

-- no leaf with a small indent starts where code does
not-small : (options : ParseOptions) (r : Rest) → options.constructs.code_indented ≡ true → nat_le 4 (indent r) ≡ true →
    has_small_indent options r ≡ false
not-small options r on far =
    ap (λ (x : Bool). not x || nat_le (indent r) 3) on
    ∙ (let few : nat_le (indent r) 3 ≡ false = grind (arith, nat_tests) in few)

fence-none : (options : ParseOptions) (r : Rest) → has_small_indent options r ≡ false →
    is_some (fence_at options r) ≡ false
unfolding fence_at
fence-none options r far = rw far refl

-- So a leaf that starts where a line is lazy for text also starts where no leaf is open.
pub text-starts : (options : ParseOptions) (at : OpenText) (r : Rest) (l : LeafName) →
    leaf_at options (held_leaf.LazyText at) r ≡ Some l → leaf_at options held_leaf.None r ≡ Some l
text-starts options at r l found = go (code_leaf.starts options held_leaf.None r) refl
  where
    Others : Bool → Bool → Bool → Bool → Option LeafName
    Others x h y z =
        cond x (Some Fence) (cond h (Some HtmlFlow) (cond y (Some HeadingAtx) (cond z (Some ThematicBreak) None)))

    others : Option LeafName
    others = first_of (λ l. (leaf l).starts options held_leaf.None r) (following CodeIndented)

    off : (x y z : Bool) → (x && false && y && z) ≡ false
    off true y z = refl
    off false y z = refl

    small : (x y : Bool) → (x && false && y) ≡ false
    small true y = refl
    small false y = refl

    text : others ≡ Some l
    text =
        ap (λ (h : Bool). Others (fence_leaf.starts options held_leaf.None r) h
        (heading_leaf.starts options held_leaf.None r) (break_leaf.starts options held_leaf.None r))
        (sym (html-lazy options at r))
        ∙ ap (λ (c : Bool). cond c (Some CodeIndented)
        (Others (fence_leaf.starts options held_leaf.None r) (html_leaf.starts options (held_leaf.LazyText at) r)
        (heading_leaf.starts options held_leaf.None r) (break_leaf.starts options held_leaf.None r)))
        (sym (off options.constructs.code_indented (nat_le 4 (indent r)) (not (is_blank r.bytes)))) ∙ found

    none : has_small_indent options r ≡ false → others ≡ None
    none far =
        ap (λ (x : Bool). Others x (html_leaf.starts options held_leaf.None r)
        (heading_leaf.starts options held_leaf.None r) (break_leaf.starts options held_leaf.None r))
        (fence-none options r far)
        ∙ ap (λ (x : Bool). Others false x (heading_leaf.starts options held_leaf.None r)
        (break_leaf.starts options held_leaf.None r)) (html-indented options held_leaf.None r far)
        ∙ ap (λ (x : Bool). Others false false x (break_leaf.starts options held_leaf.None r))
        (ap (λ (s : Bool). options.constructs.heading_atx && s && is_heading (trim_start r.bytes)) far
        ∙ small options.constructs.heading_atx (is_heading (trim_start r.bytes)))
        ∙ ap (Others false false false)
        (ap
        (λ (s : Bool). (options.constructs.thematic_break && s && is_rule (trim_start r.bytes)) && true) far
        ∙ ap (λ (x : Bool). x && true) (small options.constructs.thematic_break (is_rule (trim_start r.bytes))))

    go : (c : Bool) → code_leaf.starts options held_leaf.None r ≡ c → cond c (Some CodeIndented) others ≡ Some l
    go false e = text
    go true e =
        let of = code-rest options held_leaf.None r e in
        let bad : None ≡ Some l = sym (none (not-small options r of.enabled of.indented)) ∙ text in cc

-- Leaves that are tried before tables.

abbrev pub other_trials : List LeafName
other_trials = CodeIndented ∷ Fence ∷ HtmlFlow ∷ HeadingAtx ∷ HeadingSetext ∷ ThematicBreak ∷ []

-- the first of them that takes the rest of a line
abbrev pub other_at : ParseOptions → HeldLeaf → Rest → Option LeafName
other_at options on r = first_of (λ l. (leaf l).starts options on r) other_trials

-- where none of them does, a line of a table may be one
abbrev pub or_table : Bool → Option LeafName → Option LeafName
or_table t None = cond t (Some GfmTable) None
or_table t (Some l) = Some l

pub table-last : (options : ParseOptions) (on : HeldLeaf) (r : Rest) →
    leaf_at options on r ≡ or_table (table_leaf.starts options on r) (other_at options on r)
table-last options on r = by (λ (l : LeafName). (leaf l).starts options on r) other_trials
  where
    by : (test : LeafName → Bool) (ls : List LeafName) →
        first_of test (ls ++ GfmTable ∷ []) ≡ or_table (test GfmTable) (first_of test ls)
    by test [] = refl
    by test (l ∷ ls) = go (test l) (by test ls)
      where
        go : (x : Bool) → first_of test (ls ++ GfmTable ∷ []) ≡ or_table (test GfmTable) (first_of test ls) →
            cond x (Some l) (first_of test (ls ++ GfmTable ∷ [])) ≡
            or_table (test GfmTable) (cond x (Some l) (first_of test ls))
        go true more = refl
        go false more = more

-- none of them takes a line of text as its head
abbrev AllHeadless : List LeafName → Type 0
AllHeadless [] = Unit {0}
AllHeadless (l ∷ ls) = ((leaf l).heads ≡ false) × AllHeadless ls

first-headless : (test : LeafName → Bool) (ls : List LeafName) (l : LeafName) → AllHeadless ls →
    first_of test ls ≡ Some l → (leaf l).heads ≡ false
first-headless test [] l all e = cc
first-headless test (k ∷ ls) l all e = go (test k) e (first-headless test ls l all.1)
  where
    go : (x : Bool) → cond x (Some k) (first_of test ls) ≡ Some l →
        (first_of test ls ≡ Some l → (leaf l).heads ≡ false) → (leaf l).heads ≡ false
    go true e more = let same : k ≡ l = cc in ap (λ (m : LeafName). (leaf m).heads) (sym same) ∙ all.0
    go false e more = more e

pub other-headless : (options : ParseOptions) (on : HeldLeaf) (r : Rest) (l : LeafName) →
    other_at options on r ≡ Some l → (leaf l).heads ≡ false
other-headless options on r l found =
    first-headless (λ m. (leaf m).starts options on r) other_trials l
    (refl, (refl, (refl, (refl, (refl, (refl, tt)))))) found

-- Which leaves of the line definition start on a line that is not blank: the first of those that are built, and no
-- other.

-- indented code may begin by the leaf that the line meets, and by what the line is against, or by neither
free-open : (on : HeldLeaf) → may_open on ≡ is_free (context_of on)
free-open held_leaf.None = refl
free-open _ = refl

-- where no underline starts, of the leaves of the line definition these alone are built, in this order
pub others-found : (options : ParseOptions) (on : HeldLeaf) (against : ParagraphContext) (r : Rest) →
    IsAgainst against on → setext_leaf.starts options on r ≡ false →
    (has_small_indent options r && turns_nothing options on && is_underline (trim_start r.bytes)) ≡ false →
    is_blank r.bytes ≡ false → starts options against r ≡ result_of options r (other_at options on r)
unfolding starts
others-found options on against r same unturned no_underline dark =
    ap₂ (λ (x y : Option LeafResult). option_or x y)
    (code-found options on against r (free-open on ∙ sym (ap is_free same)) dark)
    (ap₂ (λ (x y : Option LeafResult). option_or x y) (fence-found options r)
    (ap₂ (λ (x y : Option LeafResult). option_or x y) (html-found options on against r same)
    (ap₂ (λ (x y : Option LeafResult). option_or x y) (heading-found options r)
    (break-found options on r no_underline))))
    ∙ go (code_leaf.starts options on r) (fence_leaf.starts options on r) (html_leaf.starts options on r)
    (heading_leaf.starts options on r) (break_leaf.starts options on r)
    ∙ ap
    (λ (s : Bool).
    result_of options r
    (to (code_leaf.starts options on r) (fence_leaf.starts options on r) (html_leaf.starts options on r)
    (heading_leaf.starts options on r) s (break_leaf.starts options on r))) (sym unturned)
  where
    -- a leaf, if it starts
    one : Bool → LeafName → Option LeafResult
    one x l = cond x (Some ((leaf l).becomes options NoLeaf r)) None

    to : Bool → Bool → Bool → Bool → Bool → Bool → Option LeafName
    to c x h y s z =
        cond c (Some CodeIndented)
        (cond x (Some Fence)
        (cond h (Some HtmlFlow)
        (cond y (Some HeadingAtx) (cond s (Some HeadingSetext) (cond z (Some ThematicBreak) None)))))

    go : (c x h y z : Bool) →
        option_or (one c CodeIndented)
        (option_or (one x Fence) (option_or (one h HtmlFlow) (option_or (one y HeadingAtx) (one z ThematicBreak)))) ≡
        result_of options r (to c x h y false z)
    go false false false false false = refl
    go _ _ _ _ _ = refl

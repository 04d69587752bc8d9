-- A leaf block of several lines that is open: what is known of it, and what an outline has shown of it.
use Rattle.std.proofs.Common.{◌≡◌, ℕ, ◌+◌, Bool, false, cond, List, [], ◌∷◌, ◌++◌, length, refl, sym, ◌∙◌, ap, subst}
use Rattle.std.specs.Prelude.{Option, Some, None, nat_lt, option_map}
use Rattle.md_engine.specs.declared.event.Point.{Point}
use Rattle.md_meaning.specs.declared.outline.Word.{Word}
use Rattle.md_meaning.specs.declared.outline.Word.TheVariants as word
use Rattle.md_meaning.specs.Outline.{Entry, block_entries, entry}
use Rattle.md_meaning.specs.State.{then_block}
use Rattle.md_meaning.specs.Tree.{Block, Blocks}
use Rattle.md_events.specs.Events.Spelled.{OpenContainer, OpenLeaf, LeafKind, LeafRole, Reading, at_ending, block_of}
use Rattle.md_events.specs.Events.Spelled.{finished, fresh, next_line, on_leaf, read_enter}
use Rattle.md_outline.specs.LinedState.{begin_lines, form_of, has_own_lines}
use Rattle.md_outline.specs.Outlined.{is_unparted}
use Rattle.md_outline.specs.OutlineSteps.{OutlineState, line_ended, state_enter}
use Rattle.md_outline.specs.declared.outline.TextSpan.{TextSpan}
use Rattle.md_outline.specs.declared.outline.lined.Form.{Form}
use Rattle.md_outline.specs.declared.outline.lined.Lined.{Lined}
use Rattle.md_outline.specs.declared.outline.role.Role.TheVariants as role
use Rattle.md_outline.proofs.ClosedTrees.{HaveWords, depth_of, shown, shown-then, words-then}
use Rattle.md_outline.proofs.OutlineAgrees.{Agrees, TextIs, text-lines}
use Rattle.md_outline.proofs.RoleLemmas.{by-ending}
use Rattle.md_outline.proofs.SiteTexts.{IsOpen, NoText, begins-texts}

-- What is known of it, which has said its markers, its label or its delimiter row or not. It is said of parts of what
-- was read, so it holds whatever text is read.
pub record KnownBy (block : OpenLeaf) (shape : Form) (is_recorded : Bool) (deep : ℕ) (known : Option OpenLeaf)
    (lines : Option Lined) (list : Option ℕ) (read : Option OpenLeaf) (outer : List OpenContainer) (here : Blocks)
    : Type 0 where
  pub opened : read ≡ Some block
  pub depth : deep ≡ depth_of outer
  pub words : HaveWords outer here
  pub untold : list ≡ None
  pub leaf : known ≡ None
  pub lined : lines ≡ Some (record { place = length (shown outer here); is_fenced = is_recorded; form = shape })

abbrev pub Known : OpenLeaf → Form → Bool → OutlineState → Reading → Type 0
Known block shape is_recorded s r =
    KnownBy block shape is_recorded s.depth s.leaf s.lined s.untold r.leaf r.outer r.here

-- and of what was shown of it
abbrev pub Shows : OpenLeaf → Form → Bool → (ℕ → List Entry) → OutlineState → Reading → Type 0
Shows block shape is_recorded lines s r =
    Known block shape is_recorded s r × (s.lines ≡ shown r.outer r.here ++ lines s.depth)

pub known-open : {block : OpenLeaf} {shape : Form} {is_recorded : Bool} (s : OutlineState) (r : Reading) →
    Known block shape is_recorded s r → IsOpen s r
known-open {block} {shape} {is_recorded} s r is = record {
  leaf = block;
  lined = record { place = length (shown r.outer r.here); is_fenced = is_recorded; form = shape };
  read = is.opened;
  shows = is.lined;
}

-- It begins.
pub leaf-begins : (bytes : List ℕ) (kind : LeafKind) (w : Word) (p : Point) (s : OutlineState) (r : Reading) →
    s.text ≡ None → Agrees s r →
    Shows (fresh kind) (form_of w) false (λ depth. begin_lines depth w) (state_enter bytes (role.Lined w) p s)
    (read_enter bytes (LeafRole kind) p r)
    × NoText (state_enter bytes (role.Lined w) p s) (read_enter bytes (LeafRole kind) p r)
leaf-begins bytes kind w p s r none is =
    let same : s.lines ≡ shown r.outer r.here =
    text-lines (shown r.outer r.here) s.depth s.lines s.text r.text (ap is_unparted none) is.text in (
      (
        record {
          opened = refl;
          depth = is.depth;
          words = is.words;
          untold = is.untold;
          leaf = refl;
          lined =
              ap (λ (es : List Entry). Some (record { place = length es; is_fenced = false; form = form_of w })) same;
        },
        ap (λ es. es ++ begin_lines s.depth w) same,
      ),
      (none, begins-texts s r none is),
    )

-- It is changed: by what shows its markers, its label or its delimiter row, or by what does not.
pub known-recorded : {block next : OpenLeaf} {shape : Form} {was is_recorded : Bool} {deep : ℕ}
    {known known' : Option OpenLeaf}
    {lines lines' : Option Lined} {list : Option ℕ} {read : Option OpenLeaf} {outer : List OpenContainer}
    {here : Blocks} (f : OpenLeaf → OpenLeaf) →
    KnownBy block shape was deep known lines list read outer here → f block ≡ next → known' ≡ None →
    lines' ≡ Some (record { place = length (shown outer here); is_fenced = is_recorded; form = shape }) →
    KnownBy next shape is_recorded deep known' lines' list (option_map f read) outer here
known-recorded f is same leaf lined = record {
  opened = ap (option_map f) is.opened ∙ ap Some same;
  depth = is.depth;
  words = is.words;
  untold = is.untold;
  leaf = leaf;
  lined = lined;
}

pub known-next : {block next : OpenLeaf} {shape : Form} {is_recorded : Bool} {deep : ℕ} {known : Option OpenLeaf}
    {lines : Option Lined} {list : Option ℕ} {read : Option OpenLeaf} {outer : List OpenContainer} {here : Blocks}
    (f : OpenLeaf → OpenLeaf) → KnownBy block shape is_recorded deep known lines list read outer here → f block ≡ next →
    KnownBy next shape is_recorded deep known lines list (option_map f read) outer here
known-next f is same = known-recorded f is same is.leaf is.lined

-- Between its texts a line ending opens no line of it, if its lines are not its own.
pub gap-line : {block : OpenLeaf} {shape : Form} {is_recorded : Bool} (P : OutlineState → Reading → Type 0)
    (bytes : List ℕ) (p : Point) (s : OutlineState) (r : Reading) → Known block shape is_recorded s r →
    has_own_lines shape ≡ false → P s (on_leaf next_line r) → P s r × NoText s r →
    P (line_ended bytes p.index s.lined s.text s) (at_ending bytes p r.text r)
    × NoText (line_ended bytes p.index s.lined s.text s) (at_ending bytes p r.text r)
gap-line {block} {shape} {is_recorded} P bytes p s r known own next is =
    let head : Lined = record { place = length (shown r.outer r.here); is_fenced = is_recorded; form = shape } in
    let same : line_ended bytes p.index s.lined s.text s ≡ s =
    ap (λ (l : Option Lined). line_ended bytes p.index l s.text s) known.lined
    ∙ ap (λ (span : Option TextSpan). line_ended bytes p.index (Some head) span s) is.1.0
    ∙ ap (λ (x : Bool). cond x (cond (nat_lt p.index (length bytes)) opened s) s) own in
    subst
    (λ (now : OutlineState). P now (at_ending bytes p r.text r) × NoText now (at_ending bytes p r.text r)) (sym same)
    (by-ending (λ now. P s now × NoText s now) bytes p r.text r is (next, is.1))
  where
    opened : OutlineState
    opened = record s { lines = s.lines ++ entry (s.depth + 1) word.Line ∷ [] }

-- It ends: it was shown as the block that it is.
pub open-ends : {block : OpenLeaf} {shape : Form} {is_recorded : Bool} (s : OutlineState) (r : Reading) →
    Known block shape is_recorded s r → s.lines ≡ shown r.outer r.here ++ block_entries s.depth (block_of block) →
    NoText s r → Agrees (record s { lined = None }) (finished r.leaf r)
open-ends {block} s r is all none =
    let b : Block = block_of block in
    subst (λ (l : Option OpenLeaf). Agrees (record s { lined = None }) (finished l r)) (sym is.opened)
    (record {
      depth = is.depth;
      words = words-then r.outer r.here b is.words;
      untold = is.untold;
      lined = refl;
      leaf = is.leaf;
      known = tt;
      text =
          subst (λ span. TextIs (shown r.outer (then_block r.here b)) s.depth s.lines span r.text) (sym none.0)
          (subst (λ text. TextIs (shown r.outer (then_block r.here b)) s.depth s.lines None text) (sym none.1)
          (all
          ∙ ap (λ d. shown r.outer r.here ++ block_entries d b) is.depth
          ∙ sym (shown-then r.outer r.here b is.words)));
    })

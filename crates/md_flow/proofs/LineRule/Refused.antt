-- Where leaves are tried after one that was asked first: that leaf takes a line just where the line continues it.
use Rattle.std.proofs.Common.{◌≡◌, ℕ, ◌≤◌, Bool, true, false, cond, List, [], ◌∷◌, length, refl, sym, ap, ◌∙◌}
use Rattle.std.specs.Prelude.{◌&&◌, ◌==◌, Option, Some, None, nat_eq}
use Rattle.std.specs.Option.{is_some}
use Rattle.md_engine.specs.declared.configuration.ParseOptions.{ParseOptions}
use Rattle.md_engine.specs.declared.event.Point.{Point}
use Rattle.md_engine.specs.declared.tokenizer.held_leaf.HeldLeaf.TheVariants as held_leaf
use Rattle.md_engine.specs.Meaning.{Cell, Here, Outcome}
use Rattle.md_events.specs.Ahead.{from_ending, line_bytes}
use Rattle.md_events.specs.Look.{first_seen}
use Rattle.md_events.specs.Spaces.{IsRest, any_size}
use Rattle.md_events.specs.Exact.Places.{TextLine}
use Rattle.md_events.specs.Exact.Rows.{Further, Role}
use Rattle.md_meaning.specs.Leaves.{LeafResult, is_continued}
use Rattle.md_meaning.specs.Rest.{Rest, is_blank}
use Rattle.md_meaning.specs.State.{Leaf, NoLeaf, OpenCode, OpenFence, OpenHtml, OpenParagraph, OpenTable}
use Rattle.md_registry.proofs.Registry.{insider-asked, insider-none, laws}
use Rattle.md_registry.specs.FlowRule.{blank_at_end, blank_ended, inside_by, leaf_of, line_ended, nonblank_of}
use Rattle.md_registry.specs.LineFlags.{blank_here, nothing_is_here}
use Rattle.md_registry.specs.OpenSpan.{IsBuiltLeaf, IsOpenSpan}
use Rattle.md_registry.specs.Registry.{asked_first, leaf, trials}
use Rattle.proof_frame.proofs.LeafRows.{blank-took}
use Rattle.proof_frame.specs.HeldLeaf.{kind_of_leaf}
use Rattle.proof_frame.specs.LeafName.{CodeFurther, FenceFurther, HtmlFurther, LeafName, first_of}
use Rattle.proof_frame.specs.Row.{BlankRow, LeafRow, RowKind}
use Rattle.proof_frame.specs.Rule.{Rule, tried}
use Rattle.proof_rows.proofs.FlowLeaf.{inside-is, leaf_here}
use Rattle.proof_rows.specs.Rows.{inside_or, kind_of, row_kind}
use Rattle.md_flow.proofs.LineRule.Leaf.{rest-short}
use Rattle.md_flow.proofs.LineRule.Role.{met, role-is}
use Rattle.md_flow.specs.LineRule.{IsAsked, IsNext, is_asked_first, role_at}

-- The one that is asked first.

-- it takes the further lines of the open leaf
abbrev further_name : Leaf → LeafName
further_name (OpenCode lines) = CodeFurther
further_name (OpenFence o lines) = FenceFurther
further_name open_leaf = HtmlFurther

further-asked : (open_leaf : Leaf) → is_asked_first open_leaf ≡ true → IsAsked (further_name open_leaf) true open_leaf
further-asked (OpenCode lines) e = tt
further-asked (OpenFence o lines) e = tt
further-asked (OpenHtml how lines) e = tt
further-asked NoLeaf e = cc
further-asked (OpenParagraph lines) e = cc
further-asked (OpenTable delimiter rows) e = cc

fence-asked : (x : Bool) (o : Option LeafName) → x ≡ true → cond x (Some FenceFurther) o ≡ Some FenceFurther
fence-asked true o e = refl
fence-asked false o e = cc

asked-further : (open_leaf : Leaf) → IsBuiltLeaf open_leaf → is_asked_first open_leaf ≡ true →
    asked_first (kind_of_leaf open_leaf) ≡ Some (further_name open_leaf)
unfolding asked_first IsOpenSpan
asked-further (OpenCode lines) built e = refl
asked-further (OpenFence o lines) built e = fence-asked _ _ built
asked-further (OpenHtml how lines) built e = refl
asked-further NoLeaf built e = cc
asked-further (OpenParagraph lines) built e = cc
asked-further (OpenTable delimiter rows) built e = cc

-- any other leaf is not, nor one that a lazy line meets
unasked : (all : Bool) (open_leaf : Leaf) → (all && is_asked_first open_leaf) ≡ false →
    asked_first (met all open_leaf) ≡ None
unfolding asked_first
unasked true NoLeaf e = insider-none held_leaf.None refl
unasked true (OpenParagraph lines) e = insider-none (met true (OpenParagraph lines)) refl
unasked true (OpenTable delimiter rows) e = refl
unasked true (OpenCode lines) e = cc
unasked true (OpenFence o lines) e = cc
unasked true (OpenHtml how lines) e = cc
unasked false NoLeaf e = insider-none held_leaf.None refl
unasked false (OpenParagraph lines) e = insider-none (met false (OpenParagraph lines)) refl
unasked false (OpenTable delimiter rows) e = insider-none held_leaf.None refl
unasked false (OpenCode lines) e = insider-none held_leaf.None refl
unasked false (OpenFence o lines) e = insider-none held_leaf.None refl
unasked false (OpenHtml how lines) e = insider-none held_leaf.None refl

some-if : (A : Type 0) (x : Bool) (a : A) → is_some (cond x (Some a) None) ≡ x
some-if A true a = refl
some-if A false a = refl

further-some : (options : ParseOptions) (open_leaf : Leaf) (r : Rest) → is_asked_first open_leaf ≡ true →
    is_some (role_at options (further_name open_leaf) true open_leaf r) ≡ is_some (is_continued options open_leaf r)
further-some options (OpenCode lines) r e = some-if Role (is_some (is_continued options (OpenCode lines) r)) (Further (OpenCode lines))
further-some options (OpenFence o lines) r e = some-if Role (is_some (is_continued options (OpenFence o lines) r)) (Further (OpenFence o lines))
further-some options (OpenHtml how lines) r e = some-if Role (is_some (is_continued options (OpenHtml how lines) r)) (Further (OpenHtml how lines))
further-some options NoLeaf r e = cc
further-some options (OpenParagraph lines) r e = cc
further-some options (OpenTable delimiter rows) r e = cc

none-is : (A : Type 0) (o : Option A) → is_some o ≡ false → o ≡ None
none-is A None e = refl
none-is A (Some a) e = cc

module _ (options : ParseOptions) (text : List ℕ) (line : TextLine) (r : Rest) (p : Point) (cells stop : List Cell)
    (open_leaf : Leaf) (built : IsBuiltLeaf open_leaf) (is : IsNext text line r p cells stop) where
  -- it takes the line just where the line continues the open leaf
  further-takes : is_asked_first open_leaf ≡ true →
      (leaf (further_name open_leaf)).takes options (kind_of_leaf open_leaf) cells ≡
      is_some (is_continued options open_leaf r)
  further-takes e =
      ap (λ (cs : List Cell). (leaf l).takes options (kind_of_leaf open_leaf) cs) is.are
      ∙ (laws l).fits options (kind_of_leaf open_leaf) is.said text is.following r p stop is.on.valid is.plain is.stops
      (rest-short text line r p cells stop is)
      ∙ sym (some-if Role ((leaf l).starts options (kind_of_leaf open_leaf) r) _)
      ∙ ap is_some (sym (role-is options l true open_leaf r built (further-asked open_leaf e)))
      ∙ further-some options open_leaf r e
    where
      l : LeafName
      l = further_name open_leaf

  -- so where the line does not continue it, the one that is asked first, if one is, does not take it,
  pub not-taken : (all : Bool) →
      (all ≡ true → is_asked_first open_leaf ≡ true → is_continued options open_leaf r ≡ None) →
      (l : LeafName) → asked_first (met all open_leaf) ≡ Some l →
      (leaf l).takes options (met all open_leaf) cells ≡ false
  not-taken all refused l asked = go all refused asked (is_asked_first open_leaf) refl
    where
      go : (x : Bool) → (x ≡ true → is_asked_first open_leaf ≡ true → is_continued options open_leaf r ≡ None) →
          asked_first (met x open_leaf) ≡ Some l → (first : Bool) → is_asked_first open_leaf ≡ first →
          (leaf l).takes options (met x open_leaf) cells ≡ false
      go false refused asked first e = let bad = sym (unasked false open_leaf refl) ∙ asked in cc
      go true refused asked false e = let bad = sym (unasked true open_leaf e) ∙ asked in cc
      go true refused asked true e =
          let same : l ≡ further_name open_leaf = let both = sym (asked-further open_leaf built e) ∙ asked in cc in
          ap (λ (m : LeafName). (leaf m).takes options (kind_of_leaf open_leaf) cells) same
          ∙ further-takes e ∙ ap is_some (refused refl e)

  -- and where it does not take it, the line does not continue the open leaf
  pub not-continued :
      ((l : LeafName) → asked_first (kind_of_leaf open_leaf) ≡ Some l →
      (leaf l).takes options (kind_of_leaf open_leaf) cells ≡ false) →
      is_asked_first open_leaf ≡ true → is_continued options open_leaf r ≡ None
  not-continued refused e =
      none-is LeafResult (is_continued options open_leaf r)
      (sym (further-takes e) ∙ refused (further_name open_leaf) (asked-further open_leaf built e))

-- What is left there.

-- a line that is not blank has something on it
pub something-is : (cells : List Cell) (p : Point) → is_blank (line_bytes cells) ≡ false →
    nothing_is_here (first_seen cells) p ≡ false
something-is [] p e = cc
something-is (c ∷ cs) p e = go (nat_eq c.byte 10) refl e
  where
    go : (x : Bool) → nat_eq c.byte 10 ≡ x → is_blank (line_bytes (c ∷ cs)) ≡ false →
        nothing_is_here (Some c.byte) p ≡ false
    go true at e = cc
    go false at e = ap (λ (x : Bool). x && (p.column == 1)) at

kind-other : (test : LeafName → Bool) (o : Option LeafName) (other : RowKind) →
    ((l : LeafName) → o ≡ Some l → test l ≡ false) → inside_or test o other ≡ other
kind-other test None other refused = refl
kind-other test (Some l) other refused = ap (λ (x : Bool). cond x (LeafRow l) other) (refused l refl)

-- by the kind of the line
pub tried-is : (options : ParseOptions) (next : Rule) (cells : List Cell) (h : Here) → length cells ≤ any_size →
    IsRest h.scratch → (is_blank (line_bytes cells) ≡ false → h.flags.blank ≡ false) →
    ((l : LeafName) → asked_first h.flags.leaf ≡ Some l → (leaf l).takes options h.flags.leaf cells ≡ false) →
    leaf_of options next cells h ≡
    line_ended next (from_ending cells) (leaf_here options cells h (row_kind options h.flags.leaf cells))
tried-is options next cells h few rest flag refused = go (is_blank (line_bytes cells)) refl
  where
    to : RowKind → Outcome
    to k = line_ended next (from_ending cells) (leaf_here options cells h k)

    takes : LeafName → Bool
    takes l = (leaf l).takes options h.flags.leaf cells

    taken : RowKind
    taken = kind_of (first_of takes trials)

    onward : Outcome → Outcome
    onward o = tried o (blank_ended next) (λ s g. nonblank_of options next cells (record h { scratch = s; flags = g }))

    -- where one has refused the line, it is known whether something is on it
    by : (o : Option LeafName) → asked_first h.flags.leaf ≡ o → is_blank (line_bytes cells) ≡ false →
        inside_by options next o cells h ≡ leaf_of options next cells h
    by None asked e = refl
    by (Some l) asked e =
        ap
        (λ (o : Outcome).
        tried o (line_ended next) (λ s g. leaf_of options next cells (record h { scratch = s; flags = g })))
        ((laws l).refused options cells (blank_at_end cells h) (insider-asked h.flags.leaf l asked) rest
        (refused l asked))
        ∙ ap (λ (x : Bool). leaf_of options next cells (record h { flags = blank_here x h.flags }))
        (something-is cells h.point e ∙ sym (flag e))

    go : (x : Bool) → is_blank (line_bytes cells) ≡ x →
        leaf_of options next cells h ≡ to (row_kind options h.flags.leaf cells)
    go true e =
        ap onward (blank-took cells h e)
        ∙ ap to
        (sym
        (kind-other takes (asked_first h.flags.leaf) (cond (is_blank (line_bytes cells)) BlankRow taken) refused
        ∙ ap (λ (x : Bool). cond x BlankRow taken) e))
    go false e =
        sym (by (asked_first h.flags.leaf) refl e) ∙ inside-is options next cells h few rest (flag e)

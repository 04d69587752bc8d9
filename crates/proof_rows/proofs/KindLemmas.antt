-- What a line is by its kind, whichever leaves there are.
use Rattle.std.proofs.Common.{◌≡◌, Bool, true, false, cond, List, [], ◌∷◌, Option, Some, None, refl, ap, ap₂, ◌∙◌}
use Rattle.md_engine.specs.declared.configuration.ParseOptions.{ParseOptions}
use Rattle.md_engine.specs.declared.tokenizer.held_leaf.HeldLeaf.{HeldLeaf}
use Rattle.md_meaning.specs.Rest.{Rest, is_blank}
use Rattle.proof_frame.specs.LeafName.{LeafName, first_of}
use Rattle.md_registry.specs.Registry.{asked_first, leaf, trials}
use Rattle.proof_frame.specs.Row.{BlankRow, LeafRow, RowKind, TextRow}
use Rattle.proof_rows.specs.Rows.{inside_or, kind_of, line_kind}

-- Tests of leaves.

-- tests that agree find the same leaf
pub first-agrees : (f g : LeafName → Bool) → ((l : LeafName) → f l ≡ g l) → (ls : List LeafName) →
    first_of f ls ≡ first_of g ls
first-agrees f g same [] = refl
first-agrees f g same (l ∷ ls) =
    ap₂ (λ (t : Bool) (found : Option LeafName). cond t (Some l) found) (same l) (first-agrees f g same ls)

-- the leaf that a test finds passes it
pub first-passes : (test : LeafName → Bool) (ls : List LeafName) (l : LeafName) → first_of test ls ≡ Some l →
    test l ≡ true
first-passes test [] l e = cc
first-passes test (k ∷ ls) l e = go (test k) refl e (first-passes test ls l)
  where
    go : (t : Bool) → test k ≡ t → cond t (Some k) (first_of test ls) ≡ Some l →
        (first_of test ls ≡ Some l → test l ≡ true) → test l ≡ true
    go true passes e more = cc
    go false passes e more = more e

-- Kinds.

-- a line of a kind is blank, or the leaf was found
kind-is_blank : (blank : Bool) (found : Option LeafName) → cond blank BlankRow (kind_of found) ≡ BlankRow → blank ≡ true
kind-is_blank true found e = refl
kind-is_blank false None e = cc
kind-is_blank false (Some l) e = cc

kind-found : (blank : Bool) (found : Option LeafName) (l : LeafName) → cond blank BlankRow (kind_of found) ≡ LeafRow l →
    found ≡ Some l
kind-found false (Some k) l e = cc
kind-found _ _ l e = cc

-- What is found where a leaf is asked first.

pub inside-agrees : (f g : LeafName → Bool) → ((l : LeafName) → f l ≡ g l) → (o : Option LeafName) (x y : RowKind) →
    x ≡ y → inside_or f o x ≡ inside_or g o y
inside-agrees f g same None x y e = e
inside-agrees f g same (Some l) x y e = ap₂ (λ (t : Bool) (k : RowKind). cond t (LeafRow l) k) (same l) e

-- a blank line, and one of text, that leaf does not take
inside-blank : (test : LeafName → Bool) (o : Option LeafName) (other : RowKind) → inside_or test o other ≡ BlankRow →
    other ≡ BlankRow
inside-blank test None other e = e
inside-blank test (Some l) other e = go (test l) e
  where
    go : (t : Bool) → cond t (LeafRow l) other ≡ BlankRow → other ≡ BlankRow
    go true e = cc
    go false e = e

inside-text : (test : LeafName → Bool) (o : Option LeafName) (other : RowKind) → inside_or test o other ≡ TextRow →
    other ≡ TextRow
inside-text test None other e = e
inside-text test (Some l) other e = go (test l) e
  where
    go : (t : Bool) → cond t (LeafRow l) other ≡ TextRow → other ≡ TextRow
    go true e = cc
    go false e = e

-- a leaf that is found passes, or is another
inside-leaf : (test : LeafName → Bool) (o : Option LeafName) (other : RowKind) (l : LeafName) →
    inside_or test o other ≡ LeafRow l → (other ≡ LeafRow l → test l ≡ true) → test l ≡ true
inside-leaf test None other l e found = found e
inside-leaf test (Some k) other l e found = go (test k) refl e
  where
    go : (t : Bool) → test k ≡ t → cond t (LeafRow k) other ≡ LeafRow l → test l ≡ true
    go true passes e = cc
    go false passes e = found e

-- so the line is blank, or its leaf starts there
pub kind-blank : (options : ParseOptions) (on : HeldLeaf) (r : Rest) → line_kind options on r ≡ BlankRow →
    is_blank r.bytes ≡ true
kind-blank options on r e =
    kind-is_blank (is_blank r.bytes) (first_of (λ l. (leaf l).starts options on r) trials)
    (inside-blank (λ l. (leaf l).starts options on r) (asked_first on) _ e)

pub kind-starts : (options : ParseOptions) (on : HeldLeaf) (r : Rest) (l : LeafName) →
    line_kind options on r ≡ LeafRow l → (leaf l).starts options on r ≡ true
kind-starts options on r l e =
    let found : Option LeafName = first_of (λ k. (leaf k).starts options on r) trials in
    inside-leaf (λ k. (leaf k).starts options on r) (asked_first on) _ l e
    (λ k. first-passes (λ j. (leaf j).starts options on r) trials l (kind-found (is_blank r.bytes) found l k))

-- something is on the line of a leaf that always ends there: such a leaf is not asked first
pub kind-filled : (options : ParseOptions) (on : HeldLeaf) (r : Rest) (l : LeafName) →
    line_kind options on r ≡ LeafRow l → (asked_first on ≡ Some l → ⊥) → is_blank r.bytes ≡ false
kind-filled options on r l e other = by (asked_first on) refl e
  where
    starts : LeafName → Bool
    starts k = (leaf k).starts options on r

    outer : (blank : Bool) (found : Option LeafName) → cond blank BlankRow (kind_of found) ≡ LeafRow l → blank ≡ false
    outer true found e = cc
    outer false found e = refl

    to : RowKind
    to = cond (is_blank r.bytes) BlankRow (kind_of (first_of starts trials))

    by : (o : Option LeafName) → asked_first on ≡ o → inside_or starts o to ≡ LeafRow l → is_blank r.bytes ≡ false
    by None i e = outer (is_blank r.bytes) (first_of starts trials) e
    by (Some k) i e = go (starts k) e
      where
        go : (t : Bool) → cond t (LeafRow k) to ≡ LeafRow l → is_blank r.bytes ≡ false
        go true e = absurd (other (i ∙ same))
          where
            same : Some k ≡ Some l
            same = cc
        go false e = outer (is_blank r.bytes) (first_of starts trials) e

-- where no leaf is asked first, the line is blank, or the first leaf that starts there, or text
pub kind-plain : (options : ParseOptions) (on : HeldLeaf) (r : Rest) → asked_first on ≡ None →
    line_kind options on r ≡
    cond (is_blank r.bytes) BlankRow (kind_of (first_of (λ l. (leaf l).starts options on r) trials))
kind-plain options on r e =
    ap
    (λ (o : Option LeafName).
    inside_or (λ l. (leaf l).starts options on r) o
    (cond (is_blank r.bytes) BlankRow (kind_of (first_of (λ l. (leaf l).starts options on r) trials)))) e

-- and where it is text, it is not blank, and no leaf starts there
pub kind-text : (options : ParseOptions) (on : HeldLeaf) (r : Rest) → line_kind options on r ≡ TextRow →
    cond (is_blank r.bytes) BlankRow (kind_of (first_of (λ l. (leaf l).starts options on r) trials)) ≡ TextRow
kind-text options on r e = inside-text (λ l. (leaf l).starts options on r) (asked_first on) _ e

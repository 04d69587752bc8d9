-- The events of a block are read as that block.
use Rattle.std.proofs.Common.{◌≡◌, ℕ, List, [], ◌∷◌, refl, ap, sym, ◌∙◌}
use Rattle.std.specs.Prelude.{Option, Some, None}
use Rattle.md_engine.specs.declared.event.Point.{Point}
use Rattle.md_engine.specs.declared.event.Event.{Event}
use Rattle.md_engine.specs.declared.event.Name.{Name}
use Rattle.md_events.specs.Events.Nested.{exit, around}
use Rattle.md_events.specs.Events.Spelled.{Reading, Text, OpenLeaf, LeafKind, Role, LeafRole, TextRole, Purpose, role}
use Rattle.md_events.specs.Events.Spelled.{add_block, block_of, finished, fresh, begun, text_to, recorded, recorded_at}
use Rattle.md_events.specs.Events.Spelled.{read_enter, read_exit, read}
use Rattle.md_events.proofs.SpelledLemmas.{Roles, Between, read-append, read-text, text_after}

-- events between an enter and its exit
pub read-around : (bytes : List ℕ) (r : Reading) (name : Name) (p q : Point) (inside : List Event) →
    read bytes r (around name p q inside) ≡
    read_exit bytes (role name) q (read bytes (read_enter bytes (role name) p r) inside)
read-around bytes r name p q inside = read-append bytes (read_enter bytes (role name) p r) inside (exit name q ∷ [])

-- A leaf block, by what was found in it.
pub read-leaf : (bytes : List ℕ) (r : Reading) (name : Name) (kind : LeafKind) (p q : Point) (inside : List Event)
    (leaf : OpenLeaf) →
    role name ≡ LeafRole kind → r.leaf ≡ None →
    read bytes (record r { leaf = Some (fresh kind) }) inside ≡ record r { leaf = Some leaf } →
    read bytes r (around name p q inside) ≡ add_block (block_of leaf) r
read-leaf bytes r name kind p q inside leaf is_leaf none found =
    read-around bytes r name p q inside
    ∙ ap (λ (x : Role). read_exit bytes x q (read bytes (read_enter bytes x p r) inside)) is_leaf
    ∙ ap (λ (x : Reading). finished x.leaf x) found
    ∙ ap (λ (x : Option OpenLeaf). add_block (block_of leaf) (record r { leaf = x })) (sym none)

-- A text, cut at its container prefixes.
pub read-recorded : (bytes : List ℕ) (r : Reading) (name : Name) (purpose : Purpose) (p q : Point)
    (inside : List Event) →
    role name ≡ TextRole purpose → r.text ≡ None → Roles Between inside →
    let text : Text = text_after bytes (begun p) inside in
    read bytes r (around name p q inside) ≡
    recorded purpose (record { spaces = text.spaces; text = text_to bytes q.index text }) r
read-recorded bytes r name purpose p q inside records none between =
    let text : Text = text_after bytes (begun p) inside in
    read-around bytes r name p q inside
    ∙ ap (λ (x : Role). read_exit bytes x q (read bytes (read_enter bytes x p r) inside)) records
    ∙ ap (λ (x : Reading). recorded_at bytes purpose q x.text x)
    (read-text bytes (record r { text = Some (begun p) }) (begun p) inside refl between)
    ∙ ap
    (λ (x : Option Text).
    recorded purpose (record { spaces = text.spaces; text = text_to bytes q.index text }) (record r { text = x }))
    (sym none)

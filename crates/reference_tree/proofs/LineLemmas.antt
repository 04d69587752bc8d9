-- What containers and leaves take of a line.
use Rattle.std.proofs.Common.{◌≡◌, ℕ, true, cond, ◌==◌, ◌&&◌, List, Option, Some, None, refl, sym, ◌∙◌, ap}
use Rattle.md_engine.specs.declared.configuration.ParseOptions.{ParseOptions}
use Rattle.md_meaning.specs.declared.alert.AlertKind.{AlertKind}
use Rattle.md_meaning.specs.Lines.{begins_with}
use Rattle.md_meaning.specs.Rest as r
use Rattle.md_meaning.specs.State.{InQuote, Opening}
use Rattle.md_meaning.specs.Containers.{Taken, quote_taken}
use Rattle.md_meaning.specs.Leaves.{after_word, first_word, nonempty, opening}

-- a quote's prefix is here, and this is the rest after it
pub quote_taken-some : (options : ParseOptions) (kind : Option AlertKind) (x marker inner : r.Rest) →
    r.has_small_indent options x ≡ true → marker ≡ r.after_indent x → begins_with 62 marker.bytes ≡ true →
    inner ≡ r.lose 1 (r.following 1 marker) →
    Some (record { container = InQuote kind; rest = inner }) ≡ quote_taken options kind x
unfolding quote_taken
quote_taken-some options kind x marker inner small is here e =
    let first : r.Rest = r.after_indent x in
    let taken : Option Taken = Some (record { container = InQuote kind; rest = r.lose 1 (r.following 1 first) }) in
    ap (λ y. Some (record { container = InQuote kind; rest = y })) (e ∙ ap (λ m. r.lose 1 (r.following 1 m)) is)
    ∙ sym
    (ap (λ v. cond (v && begins_with 62 first.bytes) taken None) small
    ∙ ap (λ v. cond v taken None) (ap (λ (m : r.Rest). begins_with 62 m.bytes) (sym is) ∙ here))

-- an opening fence of math, with these bytes after it
pub opening-math : (marker size columns : ℕ) (text : List ℕ) (meta : Option (List ℕ)) → marker ≡ 36 →
    meta ≡ nonempty text →
    record { marker = marker; size = size; indent = columns; info = None; meta = meta } ≡
    opening marker size columns text
opening-math marker size columns text meta e same =
    let dollar : (marker == 36) ≡ true = rw e refl in
    let with : Option (List ℕ) → Option (List ℕ) → Opening = λ info others. record {
      marker = marker;
      size = size;
      indent = columns;
      info = info;
      meta = others;
    } in
    ap (with None) same
    ∙ sym (ap (λ v. with (cond v None (nonempty (first_word text))) (nonempty (cond v text (after_word text)))) dollar)

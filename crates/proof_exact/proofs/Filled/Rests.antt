-- What is left of a line after its containers is its end.
use Rattle.std.proofs.Common.{ℕ, zero, suc, ◌+◌, ◌-◌, Bool, true, false, cond, ◌&&◌, not, List, [], ◌∷◌, ◌++◌}
use Rattle.std.proofs.Common.{length, take, drop, refl, ap, sym, ◌∙◌, append_assoc}
use Rattle.std.specs.Prelude.{◌==◌, ◌||◌, nat_eq, nat_le, Option, Some, None}
use Rattle.std.specs.List.{starts_with}
use Rattle.std.specs.Option.{option_or}
use Rattle.std.proofs.lemmas.List.{take-append-drop}
use Rattle.md_engine.specs.declared.configuration.ParseOptions.{ParseOptions}
use Rattle.md_meaning.specs.declared.alert.AlertKind.{AlertKind}
use Rattle.md_meaning.specs.Alert.{alert_at, marker_of}
use Rattle.md_meaning.specs.Ascii.{caret, left_bracket, space, tab}
use Rattle.md_meaning.specs.Containers.{Labelled, Marker, Taken, continues, footnote_by, footnote_continues}
use Rattle.md_meaning.specs.Containers.{footnote_label, item_by, item_continues, item_padding, list_marker, opens}
use Rattle.md_meaning.specs.Containers.{opens_footnote, opens_item, opens_quote, quote_taken, taken_as, with_kind}
use Rattle.md_meaning.specs.Rest.{Rest, following, after_indent, has_small_indent, indent, is_blank, lose, tab_columns}
use Rattle.md_meaning.specs.Rest.{without_column}
use Rattle.md_meaning.specs.State.{At, Container, InFootnote, InItem, InQuote, Path, Within, spot}
use Rattle.md_meaning.specs.Step.{is_concrete, is_open_text}
use Rattle.md_meaning.proofs.FindsLemmas.{Finds, first-found, none-found, some-found, when-found}
use Rattle.md_events.specs.Exact.Prefixes.{following_all, new_containers, opened, taken_prefixes}
use Rattle.proof_exact_lines.proofs.Markers.{EndsWith}

all-end : (bytes : List ℕ) → EndsWith bytes bytes
all-end bytes = record { front = []; is = refl }

ends-on : (a b c : List ℕ) → EndsWith a b → EndsWith b c → EndsWith a c
ends-on a b c h k = record {
  front = h.front ++ k.front;
  is = h.is ∙ ap (λ (l : List ℕ). h.front ++ l) k.is ∙ sym (append_assoc h.front k.front c);
}

drop-end : (n : ℕ) (bytes : List ℕ) → EndsWith bytes (drop n bytes)
drop-end n bytes = record { front = take n bytes; is = sym (take-append-drop n bytes) }

column-end : (column spaces : ℕ) (bytes : List ℕ) → EndsWith bytes (without_column column spaces bytes).bytes
column-end column (suc spaces) bytes = all-end bytes
column-end column zero [] = all-end []
column-end column zero (b ∷ bytes) = go (b == tab) (b == space)
  where
    Of : Rest → Type 0
    Of r = EndsWith (b ∷ bytes) r.bytes

    go : (x y : Bool) →
        Of
        (cond x (record { column = column + 1; spaces = tab_columns column - 1; bytes = bytes })
        (cond y (record { column = column + 1; spaces = 0; bytes = bytes })
        (record { column = column; spaces = 0; bytes = b ∷ bytes })))
    go true y = record { front = b ∷ []; is = refl }
    go false true = record { front = b ∷ []; is = refl }
    go false false = all-end (b ∷ bytes)

lose-end : (n : ℕ) (r : Rest) → EndsWith r.bytes (lose n r).bytes
lose-end zero r = all-end r.bytes
lose-end (suc n) r =
    let s : Rest = without_column r.column r.spaces r.bytes in
    ends-on r.bytes s.bytes (lose n s).bytes (column-end r.column r.spaces r.bytes) (lose-end n s)

following-end : (n : ℕ) (r : Rest) → EndsWith r.bytes (following n r).bytes
following-end n r = drop-end n r.bytes

-- after so many bytes of it, and then so many columns
following-lose : (n m : ℕ) (r : Rest) → EndsWith r.bytes (lose m (following n r)).bytes
following-lose n m r =
    ends-on r.bytes (following n r).bytes (lose m (following n r)).bytes (following-end n r)
    (lose-end m (following n r))

-- what a container leaves is an end of the rest
abbrev Ends : Rest → Taken → Type 0
Ends r t = EndsWith r.bytes t.rest.bytes

-- after the indent, so many bytes and so many columns
from-indent : (n m : ℕ) (r : Rest) → EndsWith r.bytes (lose m (following n (after_indent r))).bytes
from-indent n m r =
    ends-on r.bytes (after_indent r).bytes (lose m (following n (after_indent r))).bytes (lose-end (indent r) r)
    (following-lose n m (after_indent r))

taken-end : (r s : Rest) (x : Bool) (c : Container) → EndsWith r.bytes s.bytes →
    Finds (cond x (Some (record { container = c; rest = s })) None) (Ends r)
taken-end r s x c h =
    let t : Taken = record { container = c; rest = s } in
    when-found (Ends r) x (Some t) (λ e. some-found (Ends r) t h)

-- Containers that continue.

quote-end : (options : ParseOptions) (kind : Option AlertKind) (r : Rest) →
    Finds (quote_taken options kind r) (Ends r)
unfolding quote_taken
quote-end options kind r =
    taken-end r (lose 1 (following 1 (after_indent r))) _ (InQuote kind) (from-indent 1 1 r)

item-end : (digits : List ℕ) (marker width : ℕ) (starts_blank : Bool) (r : Rest) →
    Finds (item_continues digits marker width starts_blank r) (Ends r)
unfolding item_continues
item-end digits marker width starts_blank r =
    taken-end r (lose width r) (cond (is_blank r.bytes) (not starts_blank) (nat_le width (indent r)))
    (InItem digits marker width false) (lose-end width r)

footnote-end : (label : List ℕ) (r : Rest) → Finds (footnote_continues label r) (Ends r)
unfolding footnote_continues
footnote-end label r =
    taken-end r (lose 4 r) (is_blank r.bytes || nat_le 4 (indent r)) (InFootnote label) (lose-end 4 r)

continues-end : (options : ParseOptions) (c : Container) (r : Rest) → Finds (continues options c r) (Ends r)
continues-end options (InQuote kind) r = quote-end options kind r
continues-end options (InItem digits marker width starts_blank) r = item-end digits marker width starts_blank r
continues-end options (InFootnote label) r = footnote-end label r

taken-prefixes : (options : ParseOptions) (p : Path) (r : Rest) →
    EndsWith r.bytes (following_all r (taken_prefixes options p r)).bytes
taken-prefixes options (At s) r = all-end r.bytes
taken-prefixes options (Within before c p) r =
    go (taken-prefixes options p) (continues options c r) (continues-end options c r)
  where
    go : ((s : Rest) → EndsWith s.bytes (following_all s (taken_prefixes options p s)).bytes) → (o : Option Taken) →
        Finds o (Ends r) →
        let on : List Taken = elim o [ Some t ↦ t ∷ taken_prefixes options p t.rest | None ↦ [] ] in
        EndsWith r.bytes (following_all r on).bytes
    go below None h = all-end r.bytes
    go below (Some t) h =
        ends-on r.bytes t.rest.bytes (following_all t.rest (taken_prefixes options p t.rest)).bytes (h t refl)
        (below t.rest)

-- Containers that open.

kind-end : (options : ParseOptions) (r : Rest) (o : Option Taken) → Finds o (Ends r) →
    Finds (with_kind options o) (Ends r)
kind-end options r None h = none-found (Ends r)
kind-end options r (Some t) h =
    some-found (Ends r) (taken_as t (alert_at options t.rest)) (go (alert_at options t.rest))
  where
    go : (a : Option AlertKind) → Ends r (taken_as t a)
    go None = h t refl
    go (Some kind) =
        let n : ℕ = length (marker_of kind) in
        let m : ℕ = indent (following n (after_indent t.rest)) in
        ends-on r.bytes t.rest.bytes (lose m (following n (after_indent t.rest))).bytes (h t refl)
        (from-indent n m t.rest)

opens-quote : (options : ParseOptions) (r : Rest) → Finds (opens_quote options r) (Ends r)
unfolding opens_quote
opens-quote options r =
    when-found (Ends r) options.constructs.block_quote (with_kind options (quote_taken options None r))
    (λ e. kind-end options r (quote_taken options None r) (quote-end options None r))

item-by : (options : ParseOptions) (interrupting : Bool) (r : Rest) (o : Option Marker) →
    Finds (item_by options interrupting (indent r) (after_indent r) o) (Ends r)
item-by options interrupting r None = none-found (Ends r)
item-by options interrupting r (Some marker) =
    taken-end r
    (lose (item_padding (following (length marker.digits + 1) (after_indent r)))
    (following (length marker.digits + 1) (after_indent r)))
    _ _
    (from-indent (length marker.digits + 1) (item_padding (following (length marker.digits + 1) (after_indent r))) r)

opens-item : (options : ParseOptions) (interrupting : Bool) (r : Rest) →
    Finds (opens_item options interrupting r) (Ends r)
unfolding opens_item
opens-item options interrupting r =
    when-found (Ends r) (options.constructs.list_item && has_small_indent options r)
    (item_by options interrupting (indent r) (after_indent r) (list_marker (after_indent r).bytes))
    (λ e. item-by options interrupting r (list_marker (after_indent r).bytes))

footnote-by : (r : Rest) (o : Option Labelled) → Finds (footnote_by (after_indent r) o) (Ends r)
footnote-by r None = none-found (Ends r)
footnote-by r (Some l) =
    let after : Rest = following (length l.label + 4) (after_indent r) in
    taken-end r (after_indent after) _ (InFootnote l.label) (from-indent (length l.label + 4) (indent after) r)

opens-footnote : (options : ParseOptions) (r : Rest) → Finds (opens_footnote options r) (Ends r)
unfolding opens_footnote
opens-footnote options r =
    when-found (Ends r)
    (options.constructs.gfm_footnote_definition && has_small_indent options r
    && starts_with nat_eq (after_indent r).bytes (left_bracket ∷ caret ∷ []))
    (footnote_by (after_indent r) (footnote_label false (drop 2 (after_indent r).bytes)))
    (λ e. footnote-by r (footnote_label false (drop 2 (after_indent r).bytes)))

opens-end : (options : ParseOptions) (interrupting : Bool) (r : Rest) → Finds (opens options interrupting r) (Ends r)
opens-end options interrupting r =
    first-found (Ends r) (opens_quote options r)
    (option_or (opens_item options interrupting r) (opens_footnote options r)) (opens-quote options r)
    (first-found (Ends r) (opens_item options interrupting r) (opens_footnote options r)
    (opens-item options interrupting r) (opens-footnote options r))

opened-end : (options : ParseOptions) (interrupting : Bool) (n : ℕ) (r : Rest) →
    EndsWith r.bytes (following_all r (opened options interrupting n r)).bytes
opened-end options interrupting zero r = all-end r.bytes
opened-end options interrupting (suc n) r =
    go (opened-end options false n) (opens options interrupting r) (opens-end options interrupting r)
  where
    go : ((s : Rest) → EndsWith s.bytes (following_all s (opened options false n s)).bytes) → (o : Option Taken) →
        Finds o (Ends r) →
        let new : List Taken = elim o [ Some t ↦ t ∷ opened options false n t.rest | None ↦ [] ] in
        EndsWith r.bytes (following_all r new).bytes
    go below None h = all-end r.bytes
    go below (Some t) h =
        ends-on r.bytes t.rest.bytes (following_all t.rest (opened options false n t.rest)).bytes (h t refl)
        (below t.rest)

new-end : (options : ParseOptions) (p : Path) (all : Bool) (r : Rest) →
    EndsWith r.bytes (following_all r (new_containers options p all r)).bytes
new-end options p all r = go (all && is_concrete (spot p).leaf)
  where
    go : (x : Bool) →
        EndsWith r.bytes
        (following_all r
        (cond x [] (opened options (all && is_open_text (spot p).leaf) (length r.bytes) r))).bytes
    go true = all-end r.bytes
    go false = opened-end options (all && is_open_text (spot p).leaf) (length r.bytes) r

-- after all containers of a line
pub containers-end : (options : ParseOptions) (p : Path) (all : Bool) (r : Rest) →
    let inner = following_all r (taken_prefixes options p r) in
    EndsWith r.bytes (following_all inner (new_containers options p all inner)).bytes
containers-end options p all r =
    let inner : Rest = following_all r (taken_prefixes options p r) in
    ends-on r.bytes inner.bytes (following_all inner (new_containers options p all inner)).bytes
    (taken-prefixes options p r) (new-end options p all inner)

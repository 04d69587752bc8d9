-- The events of a text part, one at a time: what each leaves of the part, of its chunks and of the text that is read.
use Rattle.std.proofs.Common.{◌≡◌, ℕ, Bool, true, false, cond, not, ◌&&◌, ◌||◌, List, [], ◌∷◌}
use Rattle.std.proofs.Common.{◌++◌, slice_range, refl, ap, sym, ◌∙◌, subst, append_assoc}
use Rattle.std.proofs.Common.{append-nil}
use Rattle.std.specs.List.{list_all}
use Rattle.std.proofs.lemmas.Bool.{and_parts, not-true}
use Rattle.std.proofs.lemmas.List.Folds.{list_all-append}
use Rattle.md_engine.specs.declared.event.Event.{Event}
use Rattle.md_engine.specs.declared.event.Kind.{Kind}
use Rattle.md_engine.specs.declared.event.Kind.TheVariants.{Enter, Exit}
use Rattle.md_engine.specs.declared.event.Point.{Point}
use Rattle.md_meaning.specs.Lines.{without_ending}
use Rattle.md_meaning.specs.Rest.{is_blank}
use Rattle.md_meaning.specs.Texts.{split_lines}
use Rattle.md_events.specs.declared.inline.Chunk.{Chunk}
use Rattle.md_events.specs.Events.Inline.{Part, Piece, are_lines, chunk_text, is_linked, is_none, is_one_line, piece_of}
use Rattle.md_events.specs.Events.Inline.{pieces, pieces_from}
use Rattle.md_events.specs.Events.Nested.{Forward, is_exit}
use Rattle.md_events.specs.Events.PieceRules.{is_in_line}
use Rattle.md_events.specs.Events.Places.{are_placed, is_placed, same_place}
use Rattle.md_events.specs.Events.Tiles.{are_whole_parts, chunks, inside_part}
use Rattle.md_events.specs.Events.Tiles.{is_part, is_space_or_tab, is_white_piece, is_whole_part}
use Rattle.md_events.specs.Events.Tiles.{part_at, part_end, part_kind, parts}
use Rattle.md_events.proofs.NestsLemmas.{chunks-unlinked, part-none}
use Rattle.md_inline_events.specs.Woven.{read_chunks, read_side, sides}
use Rattle.md_inline_events.specs.TreeTexts.{are_filled, is_filled_part}
use Rattle.proof_inlines.proofs.LineTexts.{last_read, line_read}
use Rattle.proof_inlines.proofs.Nearby.{Near}
use Rattle.proof_inlines.proofs.ReadSteps.{Goes, Gone, Takes, goes-chunk, goes-white, gone-chunk, gone-white}
use Rattle.proof_inlines.proofs.ReadSteps.{side-last, side-line}

-- What is known of the events that follow a point.
pub record Along (bytes : List ℕ) (p : Point) (kind : Kind) (es : List Event) : Type 0 where
  pub near : Near p kind es
  pub forward : Forward p es
  pub placed : are_placed bytes es ≡ true
  pub whole : are_whole_parts bytes es ≡ true
  pub filled : list_all (is_filled_part bytes) (parts es) ≡ true

pub all-back : {A : Type 0} (test : A → Bool) (xs ys : List A) → list_all test (xs ++ ys) ≡ true →
    list_all test ys ≡ true
all-back test xs ys h =
    (and_parts (list_all test xs) (list_all test ys) (sym (list_all-append test xs ys) ∙ h)).1

pub along-next : (bytes : List ℕ) (p : Point) (kind : Kind) (e : Event) (es : List Event) →
    Along bytes p kind (e ∷ es) → Along bytes e.point e.kind es
along-next bytes p kind e es a = record {
  near = a.near.1;
  forward = a.forward.1;
  placed = (and_parts (is_placed bytes e.point) (are_placed bytes es) a.placed).1;
  whole =
      (and_parts (is_whole_part bytes e.kind (part_kind e.name) e.point es) (are_whole_parts bytes es) a.whole).1;
  filled = all-back (is_filled_part bytes) (part_at e.kind (part_kind e.name) es) (parts es) a.filled;
}

-- The part that is open: the chunks that are left of it.

abbrev pub left : List Event → List Chunk
left es = chunks (pieces (inside_part es))

pub record InPart (bytes : List ℕ) (es : List Event) : Type 0 where
  pub white : list_all (is_white_piece bytes) (pieces (inside_part es)) ≡ true
  pub lines : are_lines bytes (part_end es) (left es) ≡ true
  pub filled : are_filled bytes (left es) ≡ true

inside-next : (e : Event) (es : List Event) → is_part e.name ≡ false → inside_part (e ∷ es) ≡ e ∷ inside_part es
inside-next e es apart = ap (λ (t : Bool). cond (t && is_exit e.kind) [] (e ∷ inside_part es)) apart

end-next : (e : Event) (es : List Event) → is_part e.name ≡ false → part_end (e ∷ es) ≡ part_end es
end-next e es apart = ap (λ (t : Bool). cond (t && is_exit e.kind) e.point (part_end es)) apart

pub parts-next : (e : Event) (es : List Event) → is_part e.name ≡ false → parts (e ∷ es) ≡ parts es
parts-next e es apart = ap (λ (l : List Part). l ++ parts es) (part-none e.kind e.name es apart)

white-next : (bytes : List ℕ) (e : Event) (es : List Event) →
    list_all (is_white_piece bytes) (pieces (e ∷ es)) ≡ true → list_all (is_white_piece bytes) (pieces es) ≡ true
white-next bytes e [] h = h
white-next bytes e (f ∷ es) h = all-back (is_white_piece bytes) (piece_of e f e.kind f.kind) (pieces_from f es) h

-- an event that is no chunk, and no begin or end of a part
pub left-next : (e : Event) (es : List Event) → is_part e.name ≡ false → is_linked e ≡ false → left (e ∷ es) ≡ left es
left-next e es apart unlinked =
    ap (λ (l : List Event). chunks (pieces l)) (inside-next e es apart) ∙ chunks-unlinked e (inside_part es) unlinked

pub part-next : (bytes : List ℕ) (e : Event) (es : List Event) → is_part e.name ≡ false → is_linked e ≡ false →
    InPart bytes (e ∷ es) → InPart bytes es
part-next bytes e es apart unlinked is = record {
  white =
      white-next bytes e (inside_part es)
      (subst (λ (l : List Event). list_all (is_white_piece bytes) (pieces l) ≡ true) (inside-next e es apart) is.white);
  lines =
      subst (λ (q : Point). are_lines bytes q (left es) ≡ true) (end-next e es apart)
      (subst (λ (cs : List Chunk). are_lines bytes (part_end (e ∷ es)) cs ≡ true) (left-next e es apart unlinked) is.lines);
  filled = subst (λ (cs : List Chunk). are_filled bytes cs ≡ true) (left-next e es apart unlinked) is.filled;
}

-- two events that are a piece
abbrev pub piece_with : Event → Event → Piece
piece_with e f = record { name = e.name; linked = is_linked e; first = e.point; after = f.point }

pieces-exit : (f : Event) (es : List Event) → f.kind ≡ Exit → pieces (f ∷ es) ≡ pieces es
pieces-exit f [] exits = refl
pieces-exit f (g ∷ es) exits = ap (λ (kind : Kind). piece_of f g kind g.kind ++ pieces_from g es) exits

pieces-pair : (e f : Event) (es : List Event) → e.kind ≡ Enter → f.kind ≡ Exit →
    pieces (e ∷ f ∷ es) ≡ piece_with e f ∷ pieces es
pieces-pair e f es enters exits =
    ap (λ (kind : Kind). piece_of e f kind f.kind ++ pieces_from f es) enters
    ∙ ap (λ (kind : Kind). piece_of e f Enter kind ++ pieces_from f es) exits
    ∙ ap (λ (l : List Piece). piece_with e f ∷ l) (pieces-exit f es exits)

pub inside-pair : (e f : Event) (es : List Event) → is_part e.name ≡ false → is_part f.name ≡ false →
    inside_part (e ∷ f ∷ es) ≡ e ∷ f ∷ inside_part es
inside-pair e f es apart none =
    inside-next e (f ∷ es) apart ∙ ap (λ (l : List Event). e ∷ l) (inside-next f es none)

pub white-pair : (bytes : List ℕ) (e f : Event) (es : List Event) → is_part e.name ≡ false → is_part f.name ≡ false →
    e.kind ≡ Enter → f.kind ≡ Exit → is_space_or_tab e.name ≡ true → InPart bytes (e ∷ f ∷ es) →
    is_blank (slice_range bytes e.point.index f.point.index) ≡ true
white-pair bytes e f es apart none enters exits white is =
    let all : list_all (is_white_piece bytes) (piece_with e f ∷ pieces (inside_part es)) ≡ true =
    subst (λ (l : List Piece). list_all (is_white_piece bytes) l ≡ true)
    (ap pieces (inside-pair e f es apart none) ∙ pieces-pair e f (inside_part es) enters exits) is.white in
    sym (ap (λ (t : Bool). not t || is_blank (slice_range bytes e.point.index f.point.index)) white)
    ∙ (and_parts (is_white_piece bytes (piece_with e f)) (list_all (is_white_piece bytes) (pieces (inside_part es)))
    all).0

abbrev pub chunk_with : Event → Event → Chunk
chunk_with e f = record { first = e.point; after = f.point }

pub left-pair : (e f : Event) (es : List Event) → is_part e.name ≡ false → is_part f.name ≡ false →
    e.kind ≡ Enter → f.kind ≡ Exit → is_linked e ≡ true → left (e ∷ f ∷ es) ≡ chunk_with e f ∷ left es
left-pair e f es apart none enters exits linked =
    ap (λ (l : List Event). chunks (pieces l)) (inside-pair e f es apart none)
    ∙ ap chunks (pieces-pair e f (inside_part es) enters exits)
    ∙ ap (λ (t : Bool). cond t (chunk_with e f ∷ left es) (left es)) linked

pub record ChunkFirst (bytes : List ℕ) (chunk : Chunk) (es : List Event) : Type 0 where
  pub one :
      is_one_line (split_lines (chunk_text bytes chunk)) (is_none (left es) && same_place chunk.after (part_end es)) ≡
      true
  pub some : is_blank (without_ending (chunk_text bytes chunk)) ≡ false
  pub last : (not (is_none (left es)) || is_in_line (chunk_text bytes chunk)) ≡ true
  pub rest : InPart bytes es

pub chunk-first : (bytes : List ℕ) (e f : Event) (es : List Event) → is_part e.name ≡ false → is_part f.name ≡ false →
    e.kind ≡ Enter → f.kind ≡ Exit → is_linked e ≡ true → InPart bytes (e ∷ f ∷ es) →
    ChunkFirst bytes (chunk_with e f) es
chunk-first bytes e f es apart none enters exits linked is =
    let chunk : Chunk = chunk_with e f in
    let text : List ℕ = chunk_text bytes chunk in
    let end : Point = part_end es in
    let here : left (e ∷ f ∷ es) ≡ chunk ∷ left es = left-pair e f es apart none enters exits linked in
    let lines : are_lines bytes end (chunk ∷ left es) ≡ true =
    subst (λ (q : Point). are_lines bytes q (chunk ∷ left es) ≡ true) (end-next e (f ∷ es) apart ∙ end-next f es none)
    (subst (λ (cs : List Chunk). are_lines bytes (part_end (e ∷ f ∷ es)) cs ≡ true) here is.lines) in
    let filled : are_filled bytes (chunk ∷ left es) ≡ true =
    subst (λ (cs : List Chunk). are_filled bytes cs ≡ true) here is.filled in
    let white : list_all (is_white_piece bytes) (piece_with e f ∷ pieces (inside_part es)) ≡ true =
    subst (λ (l : List Piece). list_all (is_white_piece bytes) l ≡ true)
    (ap pieces (inside-pair e f es apart none) ∙ pieces-pair e f (inside_part es) enters exits) is.white in
    let a = and_parts (is_one_line (split_lines text) (is_none (left es) && same_place chunk.after end))
    (are_lines bytes end (left es)) lines in
    let b = and_parts (not (is_blank (without_ending text)) && (not (is_none (left es)) || is_in_line text))
    (are_filled bytes (left es)) filled in
    let c = and_parts (not (is_blank (without_ending text))) (not (is_none (left es)) || is_in_line text) b.0 in
    record {
      one = a.0;
      some = not-true (is_blank (without_ending text)) c.0;
      last = c.1;
      rest = record {
        white =
            (and_parts (is_white_piece bytes (piece_with e f))
            (list_all (is_white_piece bytes) (pieces (inside_part es))) white).1;
        lines = a.1;
        filled = b.1;
      };
    }

-- What is read.

-- so much is read of a text, before these chunks
abbrev pub Reads : List Chunk → List ℕ → List ℕ → Type 0
Reads [] text read = Gone text read
Reads (chunk ∷ chunks) text read = Goes text read

pub reads-white : (chunks : List Chunk) (text white read : List ℕ) → is_blank white ≡ true → Reads chunks text read →
    Reads chunks (text ++ white) read
reads-white [] text white read blank h = gone-white text white read blank h
reads-white (chunk ∷ chunks) text white read blank h = goes-white text white read blank h

pub record NextRead (bytes : List ℕ) (chunk : Chunk) (chunks : List Chunk) (text read : List ℕ) : Type 0 where
  pub now : List ℕ
  pub reads : Reads chunks text now
  pub same : now ++ read_chunks bytes true true chunks ≡ read ++ read_chunks bytes true true (chunk ∷ chunks)

pub chunk-reads : (bytes : List ℕ) (chunk : Chunk) (cs : List Chunk) (text taken read : List ℕ) (other : Bool) →
    is_one_line (split_lines (chunk_text bytes chunk)) (is_none cs && other) ≡ true →
    is_blank (without_ending (chunk_text bytes chunk)) ≡ false →
    (not (is_none cs) || is_in_line (chunk_text bytes chunk)) ≡ true → Takes (chunk_text bytes chunk) taken →
    Goes text read → NextRead bytes chunk cs (text ++ taken) read
chunk-reads bytes chunk [] text taken read other one some last takes goes =
    let t : List ℕ = chunk_text bytes chunk in
    record {
      now = read ++ last_read t;
      reads = gone-chunk text t taken read takes some last goes;
      same =
          append-nil (read ++ last_read t)
          ∙ ap (λ (l : List ℕ). read ++ l) (sym (side-last t last) ∙ sym (append-nil (read_side (sides true true t))));
    }
chunk-reads bytes chunk (next ∷ cs) text taken read other one some last takes goes =
    let t : List ℕ = chunk_text bytes chunk in
    let rest : List ℕ = read_chunks bytes true true (next ∷ cs) in
    record {
      now = read ++ line_read t;
      reads = goes-chunk text t taken read takes some one goes;
      same =
          append_assoc read (line_read t) rest
          ∙ ap (λ (l : List ℕ). read ++ l) (ap (λ (l : List ℕ). l ++ rest) (sym (side-line t one)));
    }

use Rattle.std.proofs.Common.{arith, refl}
use Rattle.md_engine.specs.Run.Runs.{Stays}
use Rattle.md_engine.specs.Staying.{SeesAll}
use Rattle.md_engine.specs.World.{world}
use Rattle.md_engine.proofs.StayLemmas.{stayed-by, within-world}
use Rattle.md_engine.proofs.table.stay.Goals as goal

pub returns-in_default : goal.returns-in_default
returns-in_default g c = record { runs = λ is_end. Stays; valid = c.requires; falls = omega arith; setting = refl }

pub returns-in_default-takes_at_once : goal.returns-in_default-takes_at_once
returns-in_default-takes_at_once g c =
    record { runs = λ is_end. Stays; valid = c.requires; falls = omega arith; setting = refl }

pub returns-in-Line : goal.returns-in-Line
returns-in-Line g c =
    let all : SeesAll c.in-Some.stay (world c.args.tokenizer.now) (world c.see_line.new.self) =
    rw c.in-Line.is c.see_line.ensures in
    let h =
    stayed-by g.T.Table.step g.T.Table.scheme c.args.state c.in-Next.name c.in-Some.stay
    (world c.args.tokenizer.now)
    (world c.see_line.new.self) c.in-Next.is c.in-Some.ensures c.requires (within-world c.args.tokenizer.now) all in
    record { runs = h.runs; valid = h.ready; falls = h.falls; setting = h.setting }

pub returns-in-Word : goal.returns-in-Word
returns-in-Word g c =
    let all : SeesAll c.in-Some.stay (world c.args.tokenizer.now) (world c.see_word.new.self) =
    rw c.in-Word.is c.see_word.ensures in
    let h =
    stayed-by g.T.Table.step g.T.Table.scheme c.args.state c.in-Next.name c.in-Some.stay
    (world c.args.tokenizer.now)
    (world c.see_word.new.self) c.in-Next.is c.in-Some.ensures c.requires (within-world c.args.tokenizer.now) all in
    record { runs = h.runs; valid = h.ready; falls = h.falls; setting = h.setting }

pub returns-in-Plain : goal.returns-in-Plain
returns-in-Plain g c =
    let all : SeesAll c.in-Some.stay (world c.args.tokenizer.now) (world c.see_plain.new.self) =
    rw c.in-Plain.is c.see_plain.ensures in
    let h =
    stayed-by g.T.Table.step g.T.Table.scheme c.args.state c.in-Next.name c.in-Some.stay
    (world c.args.tokenizer.now)
    (world c.see_plain.new.self) c.in-Next.is c.in-Some.ensures c.requires (within-world c.args.tokenizer.now) all in
    record { runs = h.runs; valid = h.ready; falls = h.falls; setting = h.setting }

pub returns-in-White : goal.returns-in-White
returns-in-White g c =
    let all : SeesAll c.in-Some.stay (world c.args.tokenizer.now) (world c.see_white.new.self) =
    rw c.in-White.is c.see_white.ensures in
    let h =
    stayed-by g.T.Table.step g.T.Table.scheme c.args.state c.in-Next.name c.in-Some.stay
    (world c.args.tokenizer.now)
    (world c.see_white.new.self) c.in-Next.is c.in-Some.ensures c.requires (within-world c.args.tokenizer.now) all in
    record { runs = h.runs; valid = h.ready; falls = h.falls; setting = h.setting }

pub returns-in_default-stay : goal.returns-in_default-stay
returns-in_default-stay g c =
    let h =
    stayed-by g.T.Table.step g.T.Table.scheme c.args.state c.in-Next.name c.in-Some.stay
    (world c.args.tokenizer.now)
    (world c.see_each.new.self) c.in-Next.is c.in-Some.ensures c.requires (within-world c.args.tokenizer.now)
    c.see_each.ensures in
    record { runs = h.runs; valid = h.ready; falls = h.falls; setting = h.setting }

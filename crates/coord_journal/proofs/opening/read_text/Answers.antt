use Rattle.std.proofs.Common.{◌≡◌, ◌-◌, ◌≤◌, ℕ, List, length, take, drop, ap, subst, sym, arith, min}
use Rattle.std.proofs.lemmas.List.{take_rest}
use Rattle.coord_journal.specs.Facade.{IsHalf, content_of, half_number}
use Rattle.coord_journal.proofs.Halves.{half_used}
use Rattle.coord_journal.proofs.Texts.{made, refused, refuses, text_same}
use Rattle.coord_journal.proofs.opening.read_text.Goals as goal

pub returns-in_default-clause-fault : goal.returns-in_default-clause-fault
returns-in_default-clause-fault c header = c.read_header.ensures.none c.in_default.is header.0 header.1 header.2 header.3

pub returns-in-Err-clause-fault : goal.returns-in-Err-clause-fault
returns-in-Err-clause-fault c =
    let bytes = c.args.bytes.now in
    let header = c.in-Some.header in
    let rest = header.rest.now in
    let start = c.start-start.result in
    let n_is : c.min.result ≡ min header.half_size (length (drop start rest)) = omega (arith, c.min.ensures, ap length (take_rest rest start)) in
    refuses bytes c.in-Err.fault c.in-Err.ensures.fault (λ is. (
      (header.selector, header.half_size, rest, c.in-Some.ensures.some),
      refused bytes header.selector header.half_size (half_number c.named_by-half.result) rest c.in-Some.ensures.some (sym c.named_by-half.ensures) start c.start-start.ensures.start c.min.result n_is
          (λ content used half. c.in-Err.ensures.bad is content used (rw (take_rest rest start) half)),
    ))

pub returns-clause-text : goal.returns-clause-text
returns-clause-text c =
    let header = c.in-Some.header in
    let rest = header.rest.now in
    let start = c.start-start.result in
    let content = content_of c.in-Ok.read.0 in
    let few : c.min.result ≤ header.half_size = omega (arith, c.min.ensures) in
    let half = subst (λ (l : List ℕ). IsHalf (take c.min.result l) content c.in-Ok.read.1) (take_rest rest start) c.in-Ok.ensures.ok in
    made c.args.bytes.now header.selector header.half_size (half_number c.named_by-half.result) rest c.in-Some.ensures.some (sym c.named_by-half.ensures) start c.start-start.ensures.start c.min.result c.in-Ok.read.1 content (omega arith) few half

pub returns-clause-only : goal.returns-clause-only
returns-clause-only c content text =
    text_same c.args.bytes.now (content_of c.in-Ok.read.0) content (c.in-Some.header.half_size, half_number c.named_by-half.result, c.in-Ok.read.1, returns-clause-text c) text

pub returns-clause-used : goal.returns-clause-used
returns-clause-used c =
    half_used (take c.min.result (take (length c.in-Some.header.rest.now - c.start-start.result) (drop c.start-start.result c.in-Some.header.rest.now))) (content_of c.in-Ok.read.0) c.in-Ok.read.1 c.in-Ok.ensures.ok

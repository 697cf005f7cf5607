use Rattle.std.proofs.Common.{◌≡◌, cond, false, [], ◌++◌, sym, ap, ◌∙◌, append_assoc, append-nil}
use Rattle.std.specs.Result.{is_ok}
use Rattle.std.proofs.lemmas.Result.{on_err_weaker, on_ok_weaker}
use Rattle.coord_admin.proofs.Stream.{returned-on}
use Rattle.coord_admin.proofs.writing.add_line.Goals as goal

pub returns-clause-added : goal.returns-clause-added
returns-clause-added g c =
    let text = c.deref.result.now in
    let line = c.args.line.now in
    let full : is_ok c.extend_from_slice.result ≡ false = sym c.is_ok.ensures.value ∙ c.if-is_ok.false in
    let same : text ≡ c.args.text.now.items = c.deref.ensures.value ∙ c.extend_from_slice.ensures.items ∙ ap (λ b. cond b (c.args.text.now.items ++ line) c.args.text.now.items) full in
    on_ok_weaker c.reply-2.result (λ second. (
      text ++ line,
      returned-on g.C.Duplex.exchanged g.met.C.Duplex.in_turn _ _ _ [] text line c.in_ok-reply.ensures.whole second,
      ap (λ l. l ++ line) (sym same) ∙ sym (append-nil (text ++ line)) ∙ ap (λ l. (text ++ line) ++ l) (sym c.clear.ensures.items),
    )) c.reply-2.ensures.whole

pub returns-clause-part : goal.returns-clause-part
returns-clause-part g c =
    let text = c.deref.result.now in
    let line = c.args.line.now in
    let full : is_ok c.extend_from_slice.result ≡ false = sym c.is_ok.ensures.value ∙ c.if-is_ok.false in
    let same : text ≡ c.args.text.now.items = c.deref.ensures.value ∙ c.extend_from_slice.ensures.items ∙ ap (λ b. cond b (c.args.text.now.items ++ line) c.args.text.now.items) full in
    on_err_weaker c.reply-2.result (λ second. (
      text ++ second.0,
      returned-on g.C.Duplex.exchanged g.met.C.Duplex.in_turn _ _ _ [] text second.0 c.in_ok-reply.ensures.whole second.1,
      (second.2.0, ap (λ l. l ++ line) (sym same) ∙ ap (λ l. text ++ l) second.2.1 ∙ sym (append_assoc text second.0 second.2.0)),
    )) c.reply-2.ensures.part

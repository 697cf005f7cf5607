use Rattle.std.proofs.Common.{◌≡◌, [], ◌∷◌, ◌++◌, ap, ◌∙◌, arith}
use Rattle.std.proofs.lemmas.Grind.{common_steps}
use Rattle.coord_heard.specs.Heard.{IsIn, IsWord}
use Rattle.coord_types.specs.declared.limits.TheConstants.{MAX_CLIENTS}
use Rattle.proxy_request.specs.Spelling.{spelled}
use Rattle.proxy_request.proofs.Spelled.{ended, is_command}
use Rattle.proxy_request.proofs.spelling.spell.Goals as goal

pub returns-clause-read : goal.returns-clause-read
returns-clause-read c =
    let text : c.pop-line_feed.new.self.items ≡ spelled c.args.number c.args.command = grind (arith, common_steps) in
    let client : IsIn MAX_CLIENTS 15 = (omega arith, omega arith) in
    let word : IsWord c.args.number = omega arith in
    c.order_is_read.ensures 15 (record { number = c.args.number; command = c.args.command }) c.pop-line_feed.new.self.items client word (is_command c.args.command c.lemma_in_range.ensures)
    (ap (λ t. t ++ (10 ∷ [])) text ∙ ended c.args.number c.args.command)

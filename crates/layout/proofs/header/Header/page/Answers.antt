use Rattle.std.proofs.Common.{◌≡◌, length, sym, ap, ◌∙◌, arith}
use Rattle.layout.specs.Pages.{padded}
use Rattle.layout.specs.Header.{header_of}
use Rattle.layout.proofs.HeaderPage.{front_is}
use Rattle.layout.proofs.header.Header.page.Goals as goal

pub returns : goal.returns
returns c =
    let long : length c.front.result ≡ 14 = ap length c.front.ensures in
    c.copied.ensures.all (omega (arith, long)) ∙ ap padded c.front.ensures
    ∙ sym (front_is c.args.kind (header_of c.args.self.now))

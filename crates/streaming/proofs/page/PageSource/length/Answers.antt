use Rattle.std.proofs.Common.{sym}
use Rattle.streaming.specs.Pages.{page_long}
use Rattle.streaming.proofs.page.PageSource.length.Goals as goal

pub returns : goal.returns
returns c = let p = c.args.self.now in sym (page_long p.total p.first p.bytes.now p.inside)

use Rattle.argot_names_uses.proofs.Gathered.{own_joined}
use Rattle.argot_names_uses.proofs.files.own_items.Goals as goal

pub returns : goal.returns
returns c = λ h main r are names is of.
    own_joined h r c.args.file c.in_ok-items.items.items c.in_ok-news.news.items c.append.new.self.items (c.in_ok-items.ensures h main r are names is of) (c.in_ok-news.ensures h main r are names is of) c.in_ok-append.ensures.items

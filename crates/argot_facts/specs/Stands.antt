-- Where references stand, and what they lead to.
use Rattle.std.specs.Prelude.{◌≡◌, ◌<◌, true, length}
use Rattle.argot_plain.specs.Code.{Code}
use Rattle.argot_plain.specs.Machine.{is_path_of}
use Rattle.argot_plain.specs.Nodes.{IsNode}
use Rattle.argot_facts.specs.Refers.{Location, Fact, IsLive, Targets, NodeRefers, PlaceRefers}

-- a site and one of its paths
pub record IsPlaced (p : Code) (x : Location) : Type 0 where
  pub site : x.site < length p.sites
  pub path : is_path_of p x.site x.path ≡ true

-- nodes refer, and to locations, and so do locations
abbrev pub Stands : Code → Fact → Type 0
Stands p (IsLive h) = Unit {0}
Stands p (Targets i target takes) = Unit {0}
Stands p (NodeRefers m to) = IsNode p m × IsPlaced p to
Stands p (PlaceRefers at to) = IsPlaced p at × IsPlaced p to

-- The routes, and what a target names by them.
use Rattle.std.specs.Prelude.{ℕ, ◌-◌, List, [], length, drop, take, nat_eq, Option, Some, None, Result, Ok, Err, codes, option_map, option_and_then, if◌then◌else◌}
use Rattle.std.specs.List.{starts_with, ends_with}
use Rattle.matchit.specs.Seek.{first}
use Rattle.matchit.specs.Rows.{RowsOf}
use Rattle.matchit.specs.Order.{placed}
use Rattle.matchit.specs.Route.{Scan, parse_route}
use Rattle.matchit.specs.Router.{RouteOf, route_from}
use Rattle.matchit.specs.declared.InsertError.{InsertError}
use Rattle.gm_metadata.specs.Labels.{is_label}
use Rattle.gm_http.specs.declared.status.Allowed.{Allowed}
use Rattle.gm_http.specs.declared.status.Allowed.TheVariants.{Get, Post}
use Rattle.gm_http.specs.declared.routes.Route.{Route}
use Rattle.gm_http.specs.declared.routes.Route.TheVariants as route
use Rattle.gm_http.specs.declared.routes.Target.{Target}
use Rattle.gm_http.specs.declared.routes.Target.TheVariants as target

-- the routes, and one more
abbrev pub with_route : Result Scan InsertError → Route → RowsOf (RouteOf Route)
    → RowsOf (RouteOf Route)
with_route (Ok s) value rows = placed (s.pattern, route_from s value) rows
with_route (Err e) value rows = rows

-- the four routes
abbrev pub routes : RowsOf (RouteOf Route)
routes = with_route (parse_route (codes "/commands")) route.Commands
    (with_route (parse_route (codes "/providers/{prov}/metadata")) route.Metadata
    (with_route (parse_route (codes "/mirrors/{name}")) route.Mirror
    (with_route (parse_route (codes "/status")) route.Status [])))

-- the route that takes this target
unfoldable pub route_of : List ℕ → Option Route
route_of text = option_map (λ r. r.value) (first routes text)

-- what comes after a beginning, if the text has it
abbrev pub behind : List ℕ → List ℕ → Option (List ℕ)
behind front text =
    if starts_with nat_eq text front then Some (drop (length front) text) else None

-- what comes before an end, if the text has it
abbrev pub before : List ℕ → List ℕ → Option (List ℕ)
before back text =
    if ends_with nat_eq text back then Some (take (length text - length back) text) else None

-- the label between a beginning and an end
unfoldable pub label_between : List ℕ → List ℕ → List ℕ → Option (List ℕ)
label_between front back text =
    option_and_then (λ part. if is_label part then Some part else None)
    (option_and_then (before back) (behind front text))

-- what a target on this route names; nothing if the part in braces isn't a label
abbrev pub named_on : Route → List ℕ → Option Target
named_on route.Status text = Some target.Status
named_on route.Mirror text = option_map target.Mirror (label_between (codes "/mirrors/") [] text)
named_on route.Metadata text =
    option_map target.Metadata (label_between (codes "/providers/") (codes "/metadata") text)
named_on route.Commands text = Some target.Commands

-- what a target names
unfoldable pub target_of : List ℕ → Option Target
target_of text = option_and_then (λ r. named_on r text) (route_of text)

-- the one method that a target takes
abbrev pub method_of : Target → Allowed
method_of target.Status = Get
method_of (target.Mirror name) = Get
method_of (target.Metadata name) = Get
method_of target.Commands = Post

mod Around
mod Nearness
mod Nexts
mod Siding

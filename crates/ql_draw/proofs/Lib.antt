mod Report
mod Writing
